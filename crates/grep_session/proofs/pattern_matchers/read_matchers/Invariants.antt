use Rattle.grep_session.proofs.Prelude.{map, take, AreMatchers, KeepAtMost}
use Rattle.grep_session.proofs.pattern_matchers.read_matchers.Given as goal

-- the first texts were read
abbrev pub invariant-loop-text : goal.invariant-loop-text
invariant-loop-text l = record {
  read : AreMatchers l.syntax l.options (map (λ text. text.items) (take l.text-index l.texts)) l.matchers.items;
  rooms : KeepAtMost l.states l.matchers.items;
}
