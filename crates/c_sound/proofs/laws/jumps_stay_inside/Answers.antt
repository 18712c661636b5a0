use Rattle.c_sound.proofs.Jumping.{jumps_stay}
use Rattle.c_sound.proofs.laws.jumps_stay_inside.Goals as goal

pub returns : goal.returns
returns c = jumps_stay
