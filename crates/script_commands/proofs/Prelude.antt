-- The words of specs and of std that proofs of this crate use, passed on from one place. Declares nothing.
pub use Rattle.{
  grep_session.specs.Edits.{Splice},
  grep_utility.specs.Words.{number_of},
  re_syntax.specs.Bytes.{Text},
  re_syntax.specs.Lines.{joined, newline, put_before},
  script_commands.specs.Commands.{AsksForMemory, counts, file_command, line_command, missing_command, space, splice_command, unnamed_command},
  script_commands.specs.Working.LineWords.{four_words, words_of_rest},
  script_commands.specs.Working.ReadCommands.{meant},
  std.proofs.Common.{IfErr, IfOk, List, None, Some, [], add-one, ap, append_assoc, arith, bytes_eq, codes, drop, eqb-true, false, get_or, if◌then◌else◌, length, length-take, map, nat_eq, option_map, refl, rules, subst, suc, sym, take, true, zero, ℕ, ◌++◌, ◌+◌, ◌-◌, ◌<◌, ◌∙◌, ◌∷◌, ◌≡◌},
  std.proofs.lemmas.Bool.{cond-false, cond-true, false_from_ne_true},
  std.proofs.lemmas.List.{get_or-map, length-map, take_more, take_rest},
}
unfoldable pub use Rattle.script_commands.specs.Commands.{command_of, words_of}
