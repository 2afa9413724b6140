-- The steps of a script, and the replies to them, one more at a time.
use Rattle.{grep_cmd.{proofs.Prelude.{◌≡◌, ℕ, ◌+◌, true, false, ◌||◌, if◌then◌else◌, List, [], ◌∷◌, ◌++◌, inl, refl, sym, ap, ◌∙◌, subst, append_assoc, append-nil, arith, or_right, list_any-append, list_any, length-append, length-drop, take_at, Text, Ending, written, ScriptState, Clean, Step, IsStep, line_command, Steps, RepliesTo, Replies, HasAllButLast, SearchesAtMost, is_refusal, end_for, AreDone}, specs.declared.script.ScriptEnd.TheVariants.Refused}, grep_core.proofs.lemmas.WriterLaws.written-append}

-- one more step
pub done_push : (lines : List Text) (steps : List Step) (line : Text) (taken : List Text) (step : Step) → AreDone lines steps → IsStep (line_command line) taken step
    → AreDone (lines ++ line ∷ taken) (steps ++ step ∷ [])
done_push lines [] line taken step none is = (line, taken, [], ap (λ ls. ls ++ line ∷ taken) none ∙ ap (λ ls. line ∷ ls) (sym (append-nil taken)), is, refl)
done_push lines (s ∷ steps) line taken step (l, t, more, cut, this, rest) is =
    (l, t, more ++ line ∷ taken, ap (λ ls. ls ++ line ∷ taken) cut ∙ ap (λ ls. l ∷ ls) (append_assoc t more (line ∷ taken)), this, done_push more steps line taken step rest is)

-- the steps that are done, and those of the lines after them
pub done_steps : (ending : Ending) (lines rest left : List Text) (steps tail : List Step) → AreDone lines steps → Steps ending rest tail left → Steps ending (lines ++ rest) (steps ++ tail) left
done_steps ending lines rest left [] tail none next = rw none next
done_steps ending lines rest left (s ∷ steps) tail (l, t, more, cut, this, others) next =
    inl (l, t, more ++ rest, ap (λ ls. ls ++ rest) cut ∙ ap (λ ls. l ∷ ls) (append_assoc t more rest), this, done_steps ending more rest left steps tail others next)

-- nothing more is done
pub done_alone : (ending : Ending) (lines rest : List Text) (steps : List Step) → AreDone lines steps → Steps ending (lines ++ rest) steps rest
done_alone ending lines rest steps done = rw (append-nil steps) at (done_steps ending lines rest rest steps [] done refl)

-- one more reply
pub replies_push : (steps : List Step) (step : Step) (before between after : ScriptState) (replies reply : List Text) (most own : ℕ) → Replies steps before replies between most → RepliesTo step between reply after
    → SearchesAtMost step between.session.inputs own → Replies (steps ++ step ∷ []) before (replies ++ reply) after (most + own)
replies_push [] step before between after replies reply most own (none, same, zero) h cost = (
  reply,
  after,
  [],
  own,
  0,
  subst (λ i. RepliesTo step i reply after) same h,
  subst (λ (i : ScriptState). SearchesAtMost step i.session.inputs own) same cost,
  (refl, refl, refl),
  ap (λ rs. rs ++ reply) none ∙ sym (append-nil reply),
  omega (arith, zero),
)
replies_push (s ∷ steps) step before between after replies reply most own (first, mid, rest, one, others, given, cost, more, cut, sum) h last = (
  first,
  mid,
  rest ++ reply,
  one,
  others + own,
  given,
  cost,
  replies_push steps step mid between after rest reply others own more h last,
  ap (λ rs. rs ++ reply) cut ∙ append_assoc first rest reply,
  omega (arith, sum),
)

-- all but the last are written if all are
pub all_but_last : (steps : List Step) (before after : ScriptState) (replies : List Text) (most : ℕ) (more : Text) → Replies steps before replies after most → HasAllButLast steps before (written [] replies ++ more)
all_but_last [] before after replies most more h = record { sent = []; between = before; most = 0; are_replies = (refl, refl, refl); more = written [] replies ++ more; are_first = refl }
all_but_last (step ∷ []) before after replies most more h = record { sent = []; between = before; most = 0; are_replies = (refl, refl, refl); more = written [] replies ++ more; are_first = refl }
all_but_last (step ∷ next ∷ steps) before after replies most more (reply, mid, rest, own, left, first, cost, others, cut, sum) =
    let h = all_but_last (next ∷ steps) mid after rest left more others in
    record {
      sent = reply ++ h.sent;
      between = h.between;
      most = own + h.most;
      are_replies = (reply, mid, h.sent, own, h.most, first, cost, h.are_replies, refl, refl);
      more = h.more;
      are_first =
          ap (λ rs. written [] rs ++ more) cut ∙ ap (λ t. t ++ more) (written-append [] reply rest) ∙ append_assoc (written [] reply) (written [] rest) more ∙ ap (λ t. written [] reply ++ t) h.are_first ∙
          sym (append_assoc (written [] reply) (written [] h.sent) h.more) ∙ ap (λ t. t ++ h.more) (sym (written-append [] reply h.sent));
    }

-- all of them, and a beginning of the reply to one more
pub all_before : (steps : List Step) (step : Step) (before between : ScriptState) (replies : List Text) (most : ℕ) (more : Text) → Replies steps before replies between most
    → HasAllButLast (steps ++ step ∷ []) before (written [] replies ++ more)
all_before steps step before between replies most more h = record {
  sent = replies;
  between = between;
  most = most;
  are_replies = subst (λ ss. Replies ss before replies between most) (sym (take_at steps (step ∷ []) _ (omega (arith, length-drop 1 (steps ++ step ∷ []), length-append steps (step ∷ []))))) h;
  more = more;
  are_first = refl;
}

-- a reply that refuses nothing
pub end_kept : (replies reply : List Text) → list_any is_refusal reply ≡ false → end_for (replies ++ reply) ≡ end_for replies
end_kept replies reply none = ap (λ b. if b then Refused else Clean) (list_any-append is_refusal replies reply ∙ ap (λ b. list_any is_refusal replies || b) none ∙ or_false (list_any is_refusal replies))
  where
    or_false : (b : _) → (b || false) ≡ b
    or_false true = refl
    or_false false = refl

-- a reply that refuses
pub end_refused : (replies reply : List Text) → list_any is_refusal reply ≡ true → end_for (replies ++ reply) ≡ Refused
end_refused replies reply some = ap (λ b. if b then Refused else Clean) (list_any-append is_refusal replies reply ∙ or_right (list_any is_refusal replies) (list_any is_refusal reply) some)
