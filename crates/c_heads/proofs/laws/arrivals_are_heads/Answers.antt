use Rattle.c_heads.proofs.Arriving.{arrivals_are_heads}
use Rattle.c_heads.proofs.laws.arrivals_are_heads.Goals as goal

pub returns : goal.returns
returns c = λ p inputs n c s r. arrivals_are_heads p s inputs n c r
