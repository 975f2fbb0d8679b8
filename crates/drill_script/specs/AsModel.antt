-- What the lines of this crate stand for in the model.
use Rattle.wiki_model.specs.Script.{Line}
use Rattle.wiki_model.specs.Script as model
use Rattle.farm_base.specs.AsModel.{bounds_of}
use Rattle.edit_core.specs.AsModel.{edit_of}
use Rattle.region_state.specs.AsModel.{view_of, asked_of}
use Rattle.drill_script.specs.declared.script_line.ScriptLine.{ScriptLine}
use Rattle.drill_script.specs.declared.script_line.ScriptLine.TheVariants as line

abbrev pub line_of : ScriptLine → Line
line_of (line.Farm home west epoch) = model.FarmLine home west epoch
line_of (line.Bounds b) = model.BoundsLine (bounds_of b)
line_of (line.At at) = model.At at
line_of line.Beat = model.BeatLine
line_of (line.Apply r replica count) = model.ApplyLine r replica count
line_of (line.Edit ask) = model.EditLine (edit_of ask)
line_of (line.View ask) = model.ViewLine (view_of ask)
line_of (line.Arrive id asked) = model.Open id (asked_of asked)
line_of (line.Begin id) = model.BeginLine id
line_of (line.Commit id) = model.CommitLine id
line_of (line.Wait id) = model.WaitLine id
line_of (line.Look id) = model.LookLine id
line_of (line.Snap id) = model.SnapLine id
line_of (line.Store id) = model.StoreLine id
line_of (line.Carry number) = model.CarryLine number
line_of (line.Drop number) = model.DropLine number
line_of (line.Markup markup) = model.MarkupLine markup
line_of line.End = model.End
