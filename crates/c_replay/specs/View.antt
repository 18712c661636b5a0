-- What an item of the code stands for.
use Rattle.c_straight_model.specs.Machine.{Item, Rest, Work, Tests, Value, Adds}
use Rattle.c_replay.specs.declared.control.Waiting.{Waiting}
use Rattle.c_replay.specs.declared.control.Waiting.TheVariants as w

abbrev pub item_of : Waiting → Item
item_of (w.Rest left) = Rest left.now
item_of (w.Work item found) = Work item.now found
item_of (w.Tests item found) = Tests item.now found
item_of (w.Value sum) = Value sum.now
item_of (w.Adds value left) = Adds value left.now
