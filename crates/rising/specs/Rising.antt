-- An edit in the tablet's memory as `runs` has it.
use Rattle.runs.specs.Ways as W
use Rattle.edits.specs.declared.Edit.{Edit}

abbrev pub as_edit : Edit → W.Edit
as_edit e = record { was = e.was; becomes = e.becomes }
