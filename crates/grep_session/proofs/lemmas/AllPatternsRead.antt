-- All patterns were read again.
use Rattle.{grep_session.proofs.Prelude.{get_or, ◌≡◌, Bool, true, false, IsTrue, MatchBool, List, [], map, Option, None, Some, IfSome, Result, Ok, Err, All, inl, inr, refl, sym, ap, Text, AreParts, Matcher, KeptFile, KeptLine, Syntax, Expression, IsReadable, Flag, Count, Options, Inputs, EditFault, NoSuchFile, FileIsMissing, OutOfRange, LineHasNewline, NoSuchPattern, Pattern, TooManyPatterns, Memory, ReadsAgain, read_as, SetFlag, SetSyntax, Applies, EditGives, option_of, with_option, IsKept, IsFileKept, kept_lines, span_places, AreMatchers, RefusesFirst, false≢true}, std.specs.Bool.⊤}

-- some pattern was refused, or memory ran out
pub refuses_again : (T : Type 0) (syntax : Syntax) (options : Options) (old : Inputs) (fault : EditFault) → RefusesFirst syntax options.ignore_case old.patterns fault → ReadsAgain {T = T} syntax options old old (Err fault)
refuses_again T syntax options old fault (inl memory) = rw memory refl
refuses_again T syntax options old fault (inr reported) =
    rw reported.3 (inr ((λ all. reported.2.unreadable (all reported.0 [] reported.2.in_texts)), (reported.0, reported.1, reported.2, refl)), refl)

-- another syntax
pub sets_syntax : {T : Type 0} (syntax : Syntax) (old new : Inputs) (result : Result T EditFault) → ReadsAgain syntax old.options old new result → EditGives (SetSyntax syntax) old new result
sets_syntax syntax old new (Ok done) h = h
sets_syntax syntax old new (Err NoSuchFile) h = h
sets_syntax syntax old new (Err FileIsMissing) h = h
sets_syntax syntax old new (Err OutOfRange) h = h
sets_syntax syntax old new (Err LineHasNewline) h = h
sets_syntax syntax old new (Err NoSuchPattern) h = h
sets_syntax syntax old new (Err (Pattern place fault)) h = h
sets_syntax syntax old new (Err TooManyPatterns) h = h
sets_syntax syntax old new (Err Memory) h = h

module _ (es : List Expression) (old new : Options) (same : new.line_regexp ≡ old.line_regexp) where
  -- under options that ask for no more parts, what is kept of a line stays right
  module _ (less : IsTrue new.only_matching → IsTrue old.only_matching) where
    kept_line : (line : KeptLine) → IsKept es old line → IsKept es new line
    kept_line line k = record { matching = rw same k.matching; parts = by_flags _ _ less k.parts }
      where
        Kept : Bool → Bool → Type 0
        Kept asked whole = MatchBool asked (AreParts es line.text whole (map span_places line.found.spans)) ⊤

        by_flags : (n o : Bool) → (IsTrue n → IsTrue o) → Kept o old.line_regexp → Kept n new.line_regexp
        by_flags true true f h = rw same h
        by_flags true false f h = absurd (false≢true (f refl))
        by_flags false o f h = tt

    pub kept_files : (files : List KeptFile) → All (IsFileKept es old) files → All (IsFileKept es new) files
    kept_files files all i d lt = one (kept_lines (get_or files i d)) (all i d lt)
      where
        one : (lines : Option (List KeptLine)) → IfSome lines (All (IsKept es old)) → IfSome lines (All (IsKept es new))
        one None h = tt
        one (Some lines) h = λ i d lt. kept_line _ (h i d lt)

-- the matchers are those of the patterns under options with the same `-x` and `-i`, too
pub AreMatchers-options : (syntax : Syntax) (old new : Options) {texts : List Text} (matchers : List Matcher) → new.line_regexp ≡ old.line_regexp → new.ignore_case ≡ old.ignore_case → AreMatchers syntax old texts matchers → AreMatchers syntax new texts matchers
AreMatchers-options syntax old new matchers whole case s = record {
  meant = rw case s.meant;
  wholes = rw whole s.wholes;
  readable = rw case s.readable;
  counted = s.counted;
}

-- ---- an option

-- another value of an option
pub sets_flag : {T : Type 0} (flag : Flag) (on : Bool) (old new : Inputs) (result : Result T EditFault) → ReadsAgain old.syntax (with_option flag on old.options) old new result → EditGives (SetFlag flag on) old new result
sets_flag flag on old new (Ok done) h = h
sets_flag flag on old new (Err NoSuchFile) h = h
sets_flag flag on old new (Err FileIsMissing) h = h
sets_flag flag on old new (Err OutOfRange) h = h
sets_flag flag on old new (Err LineHasNewline) h = h
sets_flag flag on old new (Err NoSuchPattern) h = h
sets_flag flag on old new (Err (Pattern place fault)) h = h
sets_flag flag on old new (Err TooManyPatterns) h = h
sets_flag flag on old new (Err Memory) h = h

-- the value that an option has
pub with_same : (flag : Flag) (options : Options) → with_option flag (option_of flag options) options ≡ options
with_same Count options = refl
with_same _ options = refl

-- options that read the patterns as before
pub applies_flag : (flag : Flag) (on : Bool) (old : Inputs) → (with_option flag on old.options).ignore_case ≡ old.options.ignore_case → All (IsReadable old.syntax old.options.ignore_case) old.patterns
    → Applies (SetFlag flag on) old (Ok (read_as old.syntax (with_option flag on old.options) old))
applies_flag flag on old case readable = inl (rw case readable, refl)

-- an option that is set to its present value
pub applies_same : (flag : Flag) (on : Bool) (old : Inputs) → option_of flag old.options ≡ on → All (IsReadable old.syntax old.options.ignore_case) old.patterns → Applies (SetFlag flag on) old (Ok old)
applies_same flag on old same readable =
    let options : with_option flag on old.options ≡ old.options = cc (with_same flag old.options) in
    inl (rw options readable, ap (λ o. Ok (record old { options = o })) (sym options))
