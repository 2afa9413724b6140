-- Bytes that move from a buffer to a writer.
use Rattle.grep_io.proofs.Prelude.{◌≡◌, ℕ, ◌+◌, ◌-◌, ◌<◌, [], ◌++◌, Option, Result, Ok, Err, MatchResult, IfOk, inl, inr, ⊎_elim, length, take, refl, sym, ap, ◌∙◌, arith, append-nil, take-append-drop, length-drop, subst, append_known-moved, append_known-grown, append_known-passed, Appends-nil, Appends-kept, take_all, drop_all, Keeps, Appends, append_known, Text, HasNoNewline, one_more, StopsWithin, Writes, BufferedWriter, Sends, SendsAll, SendsSome, all_contents, EndsRows, SendsFront, SendsWhole, SendsRows}

-- a writer with these bytes waiting
abbrev pub holding : {W : Type 0} → W → Text → BufferedWriter W
holding inner waiting = record { inner = inner; waiting = waiting }

module _ {W : Type 0} (contents : W → Option Text) (failures : W → ℕ) where
  -- the first n bytes were sent, and n bytes waited
  whole_front_sent : {new : BufferedWriter W} (old : BufferedWriter W) (n : ℕ) → n ≡ length old.waiting → SendsFront contents failures n old new → SendsAll contents failures old new
  whole_front_sent old n all went = record {
    written = rw (take_all n old.waiting (omega arith)) at went.written;
    none_waits = went.rest ∙ drop_all n old.waiting (omega arith);
    none_failed = went.none_failed;
  }

  -- all that waited was to be sent
  pub all_sent : {T E : Type 0} (old new : BufferedWriter W) (n : ℕ) (r : Result T E) → n ≡ length old.waiting → MatchResult r (λ _. SendsFront contents failures n old new) (λ _. SendsSome contents failures old new) → Sends contents failures old new r
  all_sent old new n (Ok v) all went = whole_front_sent _ n all went
  all_sent old new n (Err e) all went = went

  -- the rows that waited whole were to be sent
  pub rows_sent : {T E : Type 0} (old new : BufferedWriter W) {n : ℕ} (r : Result T E) → EndsRows old.waiting n → MatchResult r (λ _. SendsFront contents failures n old new) (λ _. SendsSome contents failures old new) → SendsRows contents failures old new r
  rows_sent old new {n} (Ok v) ended went = record { count = n; whole = inl ended; front = went }
  rows_sent old new (Err e) ended went = went

  -- no row waited whole, and all was to be sent
  pub part_sent : {T E : Type 0} (old new : BufferedWriter W) (n : ℕ) (r : Result T E) → HasNoNewline old.waiting → n ≡ length old.waiting → MatchResult r (λ _. SendsFront contents failures n old new) (λ _. SendsSome contents failures old new) → SendsRows contents failures old new r
  part_sent old new n (Ok v) none all went = record { count = n; whole = inr (none, all); front = went }
  part_sent old new n (Err e) none all went = went

  -- where bytes waited and rows were sent, fewer wait
  fewer_wait : {old new : BufferedWriter W} → SendsWhole contents failures old new → 0 < length old.waiting → length new.waiting < length old.waiting
  fewer_wait {old} {new} went some =
      let count_some = ⊎_elim (λ ended. ended.some) (λ all. omega arith) went.whole in
      let left : length new.waiting ≡ length old.waiting - went.count = cc (went.front.rest, length-drop went.count old.waiting) in
      omega arith

  pub rows_make_room : {T E : Type 0} (old new : BufferedWriter W) (r : Result T E) → SendsRows contents failures old new r → IfOk r (λ _. 0 < length old.waiting → length new.waiting < length old.waiting)
  rows_make_room old new (Ok v) went = fewer_wait went
  rows_make_room old new (Err e) went = tt

  -- no byte is lost where all were sent
  pub kept_by_all : (old new : BufferedWriter W) → SendsAll contents failures old new → Keeps (all_contents contents old) (all_contents contents new)
  kept_by_all old new sends = append_known-moved (contents old.inner) (contents new.inner) old.waiting new.waiting old.waiting sends.written (cc (append-nil old.waiting, sends.none_waits))

  -- no byte is lost where whole rows were sent
  pub kept_by_rows : (old new : BufferedWriter W) → SendsWhole contents failures old new → Keeps (all_contents contents old) (all_contents contents new)
  kept_by_rows old new sends = append_known-moved (contents old.inner) (contents new.inner) (take sends.count old.waiting) new.waiting old.waiting sends.front.written (cc (take-append-drop sends.count old.waiting, sends.front.rest))

  -- no byte is lost where some were sent
  pub kept_by_some : (old new : BufferedWriter W) → SendsSome contents failures old new → Keeps (all_contents contents old) (all_contents contents new)
  kept_by_some old new sends = append_known-moved (contents old.inner) (contents new.inner) sends.front new.waiting old.waiting sends.written sends.cut

  -- a flush that failed wrote nothing more
  pub stops_with_none : {old new : BufferedWriter W} → SendsSome contents failures old new → StopsWithin (all_contents contents) (λ out. failures out.inner) old new []
  stops_with_none {old} {new} sends = record {
    front = [];
    rest = [];
    cut = refl;
    written = Appends-kept (all_contents contents old) (all_contents contents old) (all_contents contents new) [] (Appends-nil (all_contents contents old)) (kept_by_some _ _ sends);
    counted = sends.counted;
  }

  -- all that waited was sent, and then the inner writer was flushed
  pub flushed : {T E : Type 0} (old : BufferedWriter W) (inner last : W) (waiting : Text) (r : Result T E) → SendsAll contents failures old (holding inner waiting) → Writes contents failures inner last [] r → Writes (all_contents contents) (λ out. failures out.inner) old (holding last waiting) [] r
  flushed old inner last waiting (Ok v) sent went = record {
    written = append_known-passed (all_contents contents old) (contents inner) (contents last) waiting waiting [] [] (kept_by_all _ _ sent) sent.none_waits went.written (sym (append-nil waiting));
    none_failed = went.none_failed ∙ sent.none_failed;
  }
  flushed old inner last waiting (Err e) sent went =
      let kept = kept_by_all old (holding inner waiting) sent in record {
        front = went.front;
        rest = went.rest;
        cut = went.cut;
        written = rw (append-nil went.front) at (append_known-passed (all_contents contents old) (contents inner) (contents last) waiting waiting went.front [] kept sent.none_waits went.written (sym (append-nil waiting)));
        counted = cc (went.counted, sent.none_failed);
      }

  -- nothing waits in the buffer, nor in a writer that was flushed
  pub none_waits_after : {T E : Type 0} (waits : W → ℕ) {old : BufferedWriter W} {inner : W} (last : W) (waiting : Text) (r : Result T E) → SendsAll contents failures old (holding inner waiting) → IfOk r (λ _. waits last ≡ 0) → IfOk r (λ _. length waiting + waits last ≡ 0)
  none_waits_after waits last waiting (Ok v) sent none = let short : length waiting ≡ 0 = rw sent.none_waits in omega arith
  none_waits_after waits last waiting (Err e) sent none = tt

pub ruleset moving = (all_sent, kept_by_all, kept_by_rows, kept_by_some, append_known-grown)
