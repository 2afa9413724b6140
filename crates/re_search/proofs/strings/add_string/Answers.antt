use Rattle.re_search.proofs.{Prelude.{rules, IfSome, ◌≡◌, ◌∷◌, [], ◌++◌, sym, IfSome_then, newline}, lemmas.PlainLaws.{no_newline, string_added}}
use Rattle.re_search.proofs.strings.add_string.Goals as goal

pub returns : goal.returns
returns c =
    let string = c.args.string.now in
    let old = c.args.strings.now.items in
    let new = c.add_line.new.texts.items in
    let added : IfSome c.ok.result (λ x. new ≡ old ++ (string ++ newline ∷ [])) = search rules in
    let line = no_newline string c.memchr.result (sym c.if-is_some.ensures) c.memchr.ensures in
    IfSome_then c.ok.result added (λ x adds. string_added string old new line adds)
