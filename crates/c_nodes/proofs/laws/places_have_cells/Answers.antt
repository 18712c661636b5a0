use Rattle.c_nodes.proofs.CallRooms.{call_room, named_size_room, sizeof_room}
use Rattle.c_operators.proofs.PlaceRooms.{member_room, name_room, subscript_room}
use Rattle.c_operators.proofs.Rooms.{assign_room, binary_room, cast_room, conditional_room, sequence_room, step_room}
use Rattle.c_nodes.proofs.laws.places_have_cells.Goals as goal

pub returns : goal.returns
returns c = record {
  of_operators = binary_room;
  of_casts = cast_room;
  of_choices = conditional_room;
  of_assignments = assign_room;
  of_steps = step_room;
  of_comma = sequence_room;
  of_calls = call_room;
  of_type_sizes = named_size_room;
  of_sizes = sizeof_room;
  of_names = name_room;
  of_subscripts = subscript_room;
  of_members = member_room;
}
