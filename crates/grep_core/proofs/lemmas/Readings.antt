-- What a source did, from what its reads gave.
use Rattle.grep_core.proofs.Prelude.{Bool, true, false, List, [], ◌∷◌, Option, Some, None, refl, Text, Source, Reading, not_opened, ends_after, IsReadingOf, AreReadings}

-- a source that was not looked at has done something
pub IsReadingOf-exists : (source : Source) → (r : Reading) × IsReadingOf source r
IsReadingOf-exists source = by_case source.opens source.bytes
  where
    by_case : (opens : Option Bool) (bytes : Option Text) → (r : Reading) × IsReadingOf (record { name = source.name; opens = opens; bytes = bytes }) r
    by_case (Some false) bytes = (not_opened, refl)
    by_case (Some true) (Some all) = (ends_after all, (refl, refl))
    by_case (Some true) None = (ends_after [], (refl, tt))
    by_case None (Some all) = (ends_after all, (tt, refl))
    by_case None None = (ends_after [], (tt, tt))

-- sources that were not looked at have done something
pub AreReadings-exist : (sources : List Source) → (rs : List Reading) × AreReadings sources rs
AreReadings-exist [] = ([], tt)
AreReadings-exist (source ∷ sources) = let first = IsReadingOf-exists source in let rest = AreReadings-exist sources in (first.0 ∷ rest.0, (first.1, rest.1))
