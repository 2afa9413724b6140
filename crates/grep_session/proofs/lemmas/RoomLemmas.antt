-- How much the matchers of a session may keep, as some come and go.
use Rattle.{grep_session.proofs.Prelude.{◌≡◌, ℕ, ◌≤◌, ◌<◌, List, [], ◌∷◌, ◌++◌, length, map, get_or, sym, ap, ◌∙◌, arith, map-append, length-map, All-append, All-nil, All-push, Matcher, room_of, KeepAtMost}, std.proofs.lemmas.List.get_or-map}

-- matchers that may keep as much as others keep at most as much
pub keep_same : (most : ℕ) (old new : List Matcher) → map room_of new ≡ map room_of old → KeepAtMost most old → KeepAtMost most new
keep_same most old new same h = rw same h

-- they do so where others come after them
pub keep_both : (most : ℕ) {new : List Matcher} (old more : List Matcher) → new ≡ old ++ more → KeepAtMost most old → KeepAtMost most more → KeepAtMost most new
keep_both most old more e h m = rw (ap (map room_of) e ∙ map-append room_of old more) (All-append (λ room. room ≤ most) (map room_of old) (map room_of more) h m)

-- and where there are none, or one more comes
pub keep_none : (most : ℕ) (ms : List Matcher) → ms ≡ [] → KeepAtMost most ms
keep_none most ms e = rw e (All-nil (λ room. room ≤ most))

pub keep_one : (most : ℕ) (old : List Matcher) (m : Matcher) (new : List Matcher) → new ≡ old ++ m ∷ [] → KeepAtMost most old → room_of m ≤ most → KeepAtMost most new
keep_one most old m new e h r = keep_both _ _ _ e h (All-push (λ room. room ≤ most) [] (room_of m) (All-nil (λ room. room ≤ most)) r)

-- the matcher at place i may keep no more than any
pub room_at : (most : ℕ) (ms : List Matcher) (i : ℕ) (m : Matcher) → i < length ms → m ≡ get_or ms i m → KeepAtMost most ms → room_of m ≤ most
room_at most ms i m h e k = rw (get_or-map room_of ms i m (room_of m) h ∙ ap room_of (sym e)) at (k i (room_of m) (omega (arith, length-map ms room_of)))
