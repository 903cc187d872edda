-- Law: the board's memory by its fields, as a save file has them.
use Rattle.pac_inputs.specs.Inputs.{mask}
use Rattle.pac_latch.specs.Latched.{latched_of}
use Rattle.pac_map.specs.declared.memory.fields.MemoryFields.{MemoryFields}
use Rattle.pac_map.specs.View.{View}

-- the view that has these fields
abbrev pub view_of_fields : MemoryFields → View
view_of_fields fields = record {
  switches = fields.switches;
  held = mask fields.held;
  tile = fields.tile.now;
  colour = fields.colour.now;
  work = fields.work.now;
  coordinates = fields.coordinates;
  registers = fields.registers;
  latched = latched_of fields.latch fields.vector fields.requested fields.count;
}
