-- The words of specs and of std that proofs of this crate use, passed on from one place. Declares nothing.
pub use Rattle.{
  grep_core.specs.Counted.{one_more},
  grep_core.specs.Run.{count_more, writer},
  grep_core.specs.Sources.{Returns},
  grep_core.specs.Working.Limited.{limited},
  grep_utility.specs.Working.Known.{HasReturned},
  grep_utility.specs.Working.Worked.{broken_text, row_text},
  memory_files.specs.Working.Memory.{IsSameHistory, bytes_left, bytes_of, folder_of, next_count, returned_by},
  memory_files.specs.declared.files.MemoryFiles.{MemoryFiles},
  memory_files.specs.declared.files.MemoryReader.{MemoryReader},
  re_syntax.specs.Bytes.{Text},
  std.proofs.Common.{Any, List, Option, Some, [], ap, append-nil, arith, codes, drop, false, if◌then◌else◌, inl, inr, length, length-append, length-take, min, nat_eq, ne_eqb, refl, subst, suc, sym, take, true, zero, ℕ, ◌++◌, ◌+◌, ◌-◌, ◌<◌, ◌^◌, ◌∙◌, ◌∷◌, ◌≡◌, ◌≤◌, ◌⊎◌},
  std.proofs.Math.Seq.{take-append_seam},
  std.proofs.lemmas.List.{take_rest},
  std.specs.Io.KnownBytes.{Consumes, IsAtEnd},
}
