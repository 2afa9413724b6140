use Rattle.re_auto.proofs.{Prelude.refl, lemmas.PartLemmas.{never_holds, says_empty}}
use Rattle.re_auto.proofs.build.ends.Ends.of_position.Goals as goal

pub returns : goal.returns
returns c = record {
  begins = refl;
  shows = record {
    first_at_begin = c.in_ok-one_member.ensures;
    first_inside = c.in_ok-one_member-2.ensures;
    last_at_end = c.in_ok-one_member-3.ensures;
    last_inside = c.in_ok-one_member-4.ensures;
    empty = says_empty (λ b z. never_holds (c.nowhere.ensures b z));
  };
}
