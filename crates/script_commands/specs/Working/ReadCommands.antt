-- What a command that was read means.
use Rattle.std.specs.Prelude.{List}
use Rattle.{re_syntax.specs.{Bytes.Text, Lines.joined}, grep_session.specs.Edits.SetContext}
use Rattle.grep_session.specs.Edits.{SetFlag, DropPattern, SetSyntax, AddPatterns, Edit, AddMissing}
use Rattle.grep_session.specs.Edits.{AddFile, DropFile, Splice, ChangePattern}
use Rattle.script_commands.specs.declared.command.{LineEdit.LineEdit, FileEdit.FileEdit}
use Rattle.script_commands.specs.declared.command.{PatternEdit.PatternEdit, CountedEdit.CountedEdit}
use Rattle.script_commands.specs.Commands.{Command, shows, switches_text, counts, edits, lists_page}
use Rattle.script_commands.specs.Commands.{lists_changes, asks_version}
use Rattle.script_commands.specs.declared.command.LineEdit.TheVariants as line_edit
use Rattle.script_commands.specs.declared.command.FileEdit.TheVariants as file_edit
use Rattle.script_commands.specs.declared.command.PatternEdit.TheVariants as pattern_edit
use Rattle.script_commands.specs.declared.command.CountedEdit.TheVariants as counted
use Rattle.script_commands.specs.declared.command.Command as declared
use Rattle.script_commands.specs.declared.command.Command.TheVariants as command

abbrev pub line_meant : LineEdit → Edit
line_meant (line_edit.AddMissing name) = AddMissing name.items
line_meant (line_edit.DropFile file) = DropFile file
line_meant (line_edit.DropPattern pattern) = DropPattern pattern
line_meant (line_edit.SetFlag flag on) = SetFlag flag on
line_meant (line_edit.SetSyntax syntax) = SetSyntax syntax
line_meant (line_edit.SetContext context) = SetContext context

abbrev pub file_meant : FileEdit → List Text → Edit
file_meant (file_edit.Add name) lines = AddFile name.items lines
file_meant (file_edit.Splice file start removed) lines = Splice file start removed lines

abbrev pub pattern_meant : PatternEdit → Text → Edit
pattern_meant pattern_edit.Add list = AddPatterns list
pattern_meant (pattern_edit.Change pattern) list = ChangePattern pattern list

abbrev pub counted_meant : CountedEdit → List Text → Edit
counted_meant (counted.PutLines edit) lines = file_meant edit lines
counted_meant (counted.PutPatterns edit) lines = pattern_meant edit (joined lines)

abbrev pub meant : declared.Command → Command
meant (command.Edit edit) = edits (line_meant edit)
meant (command.Counted counts_lines) = counts counts_lines.count (counted_meant counts_lines.edit)
meant command.Show = shows
meant command.Changes = lists_changes
meant (command.Page first count) = lists_page first count
meant command.Version = asks_version
meant (command.Text on) = switches_text on
