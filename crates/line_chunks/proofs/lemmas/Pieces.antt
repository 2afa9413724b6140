-- Chunks that take more lines.
use Rattle.{line_chunks.proofs.{Prelude.{◌≡◌, ℕ, ◌+◌, ◌-◌, ◌<◌, ◌≤◌, List, [], ◌∷◌, ◌++◌, length, take, drop, set, get_or, get_or_append_left, get_or-set_other, length-set, cases_lt, inl, inr, ap, sym, ◌∙◌, arith, append_assoc, append-nil, length-append, take_more, take_all, map-append, All-get_or, All-nil, All-push, All-set, IfOk, Result, Ok, Err, KeptLine, AreFilled, AreFull, IsLastFull, all_of, AddsLines, chunks_of, Entry}, lemmas.{Joins.{joined_push, joined_set_last, range_joined}, Sums.{chunks_of-set, length-chunks_of, chunk_at}}}, std.{specs.Prelude.{◌*◌, ◌/◌}, proofs.Math.Nat.{div-mul-le_self, lt-mul-div-succ, mul-le-mul_left, mul-le-mul_right}}}

pub lines_push : (es : List Entry) (e : Entry) → all_of (chunks_of (es ++ e ∷ [])) ≡ all_of (chunks_of es) ++ e.chunk
lines_push es e = cc (map-append (λ (one : Entry). one.chunk) es (e ∷ []), joined_push (chunks_of es) e.chunk)

-- no lines are added
pub adds_none : {limit : ℕ} (es : List Entry) (lines : List KeptLine) → lines ≡ [] → AddsLines limit es lines es
adds_none es lines none = record {
  all = cc (append-nil (all_of (chunks_of es)));
  filled = λ old. old;
  full = λ old. old;
}

pub adds_more : {limit : ℕ} {start before now : List Entry} {xs ys : List KeptLine} → AddsLines limit start xs before → AddsLines limit before ys now → AddsLines limit start (xs ++ ys) now
adds_more {start = start} {xs = xs} {ys = ys} a b = record {
  all = cc (b.all, a.all, append_assoc (all_of (chunks_of start)) xs ys);
  filled = λ old. b.filled (a.filled old);
  full = λ old. b.full (a.full old);
}

-- a chunk of the lines is added
pub adds_chunk : {limit : ℕ} (es new : List Entry) (e : Entry) {empty : List KeptLine} (lines : List KeptLine) → new ≡ es ++ e ∷ [] → e.chunk ≡ empty ++ lines → empty ≡ [] → 1 ≤ length lines → IsLastFull limit (chunks_of es) → AddsLines limit es lines new
adds_chunk es new e lines new_is is none some last =
    let shape : chunks_of new ≡ chunks_of es ++ e.chunk ∷ [] = cc (map-append (λ (one : Entry). one.chunk) es (e ∷ [])) in
    let own : e.chunk ≡ lines = cc in
    record {
      all = cc (lines_push es e);
      filled = λ old.
          rw shape (All-push (λ xs. 1 ≤ length xs) (chunks_of es) e.chunk old (omega (arith, ap length own)));
      full = λ old k lt.
          let within : k < length (chunks_of es) = omega (arith, ap length shape, length-append (chunks_of es) (e.chunk ∷ [])) in
          rw (shape, get_or_append_left (chunks_of es) (e.chunk ∷ []) [] k within) (elim (cases_lt (k + 1) (length (chunks_of es))) [
            | inl early ↦ old k early
            | inr late ↦ last k (omega arith)
          ]);
    }

-- the last chunk takes more lines
pub lines_set_last : (es : List Entry) (k : ℕ) {old : Entry} (new : Entry) (more : List KeptLine) → k + 1 ≡ length es → old ≡ get_or es k old → new.chunk ≡ old.chunk ++ more → all_of (chunks_of (set es k new)) ≡ all_of (chunks_of es) ++ more
lines_set_last es k {old} new more h read is =
    let here : old.chunk ≡ get_or (chunks_of es) k [] = cc (chunk_at es k old (omega arith)) in
    joined_set_last (chunks_of es) (chunks_of (set es k new)) k more (h ∙ sym (length-chunks_of es)) (cc (chunks_of-set es k new, is ∙ ap (λ lines. lines ++ more) here))

pub lines_extended : {T E : Type 0} (result : Result T E) (es : List Entry) {n : ℕ} {old : Entry} (new : Entry) (more : List KeptLine) → 0 < length es → n ≡ length es → old ≡ get_or es (n - 1) old → IfOk result (λ _. new.chunk ≡ old.chunk ++ more) → IfOk result (λ _. (limit : ℕ) → AddsLines limit es more (set es (n - 1) new))
lines_extended (Ok a) es {n} {old} new more some many read is = λ limit. record {
  all = lines_set_last es (n - 1) new more (omega arith) read is;
  filled = λ filled.
      (let here : old.chunk ≡ get_or (chunks_of es) (n - 1) [] = cc (chunk_at es (n - 1) old (omega arith)) in
      let least = All-get_or (λ xs. 1 ≤ length xs) (chunks_of es) (n - 1) [] (omega (arith, length-chunks_of es)) filled in
      rw (chunks_of-set es (n - 1) new) (All-set (λ xs. 1 ≤ length xs) (chunks_of es) (n - 1) new.chunk (omega (arith, ap length is, length-append old.chunk more, ap length here)) filled));
  full = λ full k lt.
      let same = chunks_of-set es (n - 1) new in
      let size : k + 1 < length (chunks_of es) = omega (arith, ap length same, length-set (chunks_of es) (n - 1) new.chunk) in
      rw (same, get_or-set_other (chunks_of es) (n - 1) k new.chunk [] (omega (arith, length-chunks_of es))) (full k size);
}
lines_extended (Err a) es new more some many read is = tt

-- one piece more
pub piece_next : {limit : ℕ} (start before now : List Entry) (xs : List KeptLine) (from at to : ℕ) → from ≤ at → at ≤ to → AddsLines limit start (take (at - from) (drop from xs)) before → AddsLines limit before (take (to - at) (drop at xs)) now → AddsLines limit start (take (to - from) (drop from xs)) now
piece_next {limit} start before now xs from at to le more is next = rw (range_joined xs from at to le more) at (adds_more is next)

-- one chunk more
pub chunk_next : {limit : ℕ} {start before now : List Entry} (es : List Entry) (i size : ℕ) (e : Entry) → i < length es → e ≡ get_or es i e → size ≡ length e.chunk → AddsLines limit start (all_of (chunks_of (take i es))) before → AddsLines limit before (take (size - 0) (drop 0 e.chunk)) now → AddsLines limit start (all_of (chunks_of (take (i + 1) es))) now
chunk_next es i size e h read many is next =
    let whole = take_all (size - 0) e.chunk (omega arith) in
    let more : take (i + 1) es ≡ take i es ++ e ∷ [] = cc (take_more es i e h) in
    rw (ap (λ some. all_of (chunks_of (take i es)) ++ some) whole ∙ sym (ap (λ xs. all_of (chunks_of xs)) more ∙ lines_push (take i es) e)) at (adds_more is next)

-- chunks of three parts
pub adds_three : {limit : ℕ} {one two three : List Entry} {xs ys zs : List KeptLine} → AddsLines limit [] xs one → AddsLines limit one ys two → AddsLines limit two zs three → (all_of (chunks_of three) ≡ xs ++ (ys ++ zs)) × AreFilled (chunks_of three) × AreFull limit (chunks_of three)
adds_three {limit = _} a b c =
    let d = adds_more a (adds_more b c) in
    (d.all, d.filled (All-nil (λ lines. 1 ≤ length lines)), d.full (λ k lt. absurd (omega arith)))

-- an even share of the bytes is half of the limit, or more
pub half_full : (bytes limit chunks share : ℕ) → 2 ≤ chunks → chunks ≤ bytes / limit + 1 → share ≡ bytes / chunks + 1 → limit ≤ 2 * share
half_full bytes limit chunks share many few is =
    let q = bytes / limit in
    let low : q * limit ≤ bytes = div-mul-le_self bytes limit in
    let high : bytes < chunks * share = rw is (lt-mul-div-succ bytes (omega arith)) in
    let more : chunks * share ≤ (q + 1) * share = mul-le-mul_right share few in
    let once : 1 * share ≤ q * share = mul-le-mul_right share (omega arith) in
    elim (cases_lt (2 * share) limit) [
      | inl short ↦
          let long : q * (2 * share + 1) ≤ q * limit = mul-le-mul_left q (omega arith) in
          absurd (omega arith)
      | inr enough ↦ enough
    ]
