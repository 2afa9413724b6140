-- What is left of a page.
use Rattle.std.specs.Prelude.{◌≡◌, ℕ, ◌-◌}
use Rattle.grep_live.specs.declared.page_rows.Page.{Page}

-- what is left of a page after this number of hits
abbrev pub IsRest : Page → ℕ → Page → Type 0
IsRest old number new = (new.skip ≡ old.skip - number) × (new.left ≡ old.left - (number - old.skip))
