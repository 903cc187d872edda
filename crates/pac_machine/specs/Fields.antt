-- Law: a board by its fields, as a save file has them.
use Rattle.pac_map.specs.Fields.{view_of_fields}
use Rattle.pac_wave.specs.WaveLaws.{accumulators_of_list}
use Rattle.pac_board_model.specs.BoardView.{BoardView}
use Rattle.pac_board_model.specs.Step.{Moment}
use Rattle.pac_machine.specs.declared.fields.Fields.{Fields}
use Rattle.pac_machine.specs.Standing.{BoardState, IsStateInRange}

-- the moment, and the state, that have these fields
abbrev pub moment_of : Fields → Moment BoardView
moment_of fields = record {
  regs = fields.regs;
  board = record {
    memory = view_of_fields fields.memory;
    accumulators = accumulators_of_list fields.accumulators;
    lines = fields.lines.now;
  };
  time = fields.time;
  steps = fields.steps;
}

abbrev pub state_of : Fields → BoardState
state_of fields = record { now = moment_of fields; asked = fields.asked; due = fields.due }

-- fields that a board can have; any registers of the processor can stand
abbrev pub AreBoardFields : Fields → Type 0
AreBoardFields fields = IsStateInRange (state_of fields)
