-- A context has something to do with the output only where lines are written.
use Rattle.grep_core.proofs.Prelude.{◌≡◌, Bool, true, false, ◌&&◌, ◌||◌, IsTrue, List, Option, refl, sym, ap, ◌∙◌, if◌then◌else◌, false≢true, Text, Expression, Context, Options, File, Form, nothing, names, counts, parts, lines, around, lines_with, OutAs, Out, ContextIsForLines}

-- what is asked for, where the lines that are asked for count only where nothing else is
abbrev form_by : Bool → Bool → Bool → Bool → Bool → Form → Form
form_by quiet listed counted only inverted rows = if quiet then nothing else if listed then names else if counted then counts else if only && inverted then nothing else if only then parts else rows

form_apart : (quiet listed counted only inverted : Bool) (a b : Form) → IsTrue (quiet || (listed || (counted || only))) → form_by quiet listed counted only inverted a ≡ form_by quiet listed counted only inverted b
form_apart true _ _ _ _ a b _ = refl
form_apart false true _ _ _ a b _ = refl
form_apart false false true _ _ a b _ = refl
form_apart false false false true true a b _ = refl
form_apart false false false true false a b _ = refl
form_apart false false false false _ a b some = absurd (false≢true some)

-- where lines are asked for without those around them, nothing else asks for these
is_around : Form → Bool
is_around (around context) = true
is_around _ = false

form_alone : (quiet listed counted only inverted : Bool) → is_around (form_by quiet listed counted only inverted lines) ≡ false
unfolding is_around
form_alone true _ _ _ _ = refl
form_alone false true _ _ _ = refl
form_alone false false true _ _ = refl
form_alone false false false true true = refl
form_alone false false false true false = refl
form_alone false false false false _ = refl

-- in each other form the output rests on other options than the context
out_apart : (es : List Expression) (options : Options) (context : Option Context) (many : Bool) (shape : Form) (files : List File) (out : List Text) → is_around shape ≡ false
    → OutAs es (record options { context = context }) many shape files out → OutAs es options many shape files out
unfolding is_around
out_apart _ _ _ _ nothing _ _ _ h = h
out_apart _ _ _ _ names _ _ _ h = h
out_apart _ _ _ _ counts _ _ _ h = h
out_apart _ _ _ _ parts _ _ _ h = h
out_apart _ _ _ _ lines _ _ _ h = h
out_apart _ _ _ _ (around c) _ _ other h = absurd (false≢true (sym other))

-- where one of these options is set, the output is the same with any context
context_ignored : (es : List Expression) (options : Options) (context : Option Context) (files : List File) (out : List Text)
    → IsTrue (options.quiet || (options.files_with_matches || (options.count || options.only_matching))) → Out es (record options { context = context }) files out → Out es options files out
context_ignored es options context files out some h =
    let asked = form_by options.quiet options.files_with_matches options.count options.only_matching options.invert_match in
    let apart : (a b : Form) → asked a ≡ asked b = λ a b. form_apart options.quiet options.files_with_matches options.count options.only_matching options.invert_match a b some in
    let alone = form_alone options.quiet options.files_with_matches options.count options.only_matching options.invert_match in
    rw (apart (lines_with context) (lines_with options.context)) at
    (out_apart es options _ _ _ _ _ (ap is_around (apart (lines_with context) lines) ∙ alone) h)

-- lines around selected ones are shown only where lines are written and a context is given
pub context_is_for_lines : (options : Options) → ContextIsForLines options
unfolding is_around
context_is_for_lines options = record {
  ignored = λ some context es files out. (
    context_ignored es options context files out some,
    context_ignored es (record options { context = context }) options.context files out some,
  );
  none_around = λ none context same.
      let asked = form_by options.quiet options.files_with_matches options.count options.only_matching options.invert_match in
      false≢true (sym (form_alone options.quiet options.files_with_matches options.count options.only_matching options.invert_match) ∙ ap (λ c. is_around (asked (lines_with c))) (sym none) ∙ ap is_around same);
}
