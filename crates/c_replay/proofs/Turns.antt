-- One turn of the loop is one step of an execution.
use Rattle.std.proofs.Common.{◌≡◌, ℕ, suc, refl, ap, ◌∙◌}
use Rattle.c_straight_model.specs.Machine.{Configuration, Answer, Next, step, after, goes_on}
use Rattle.c_replay.specs.declared.run.RunEnd.{RunEnd}
use Rattle.c_replay.specs.declared.run.RunEnd.TheVariants as end
use Rattle.c_replay.specs.RunEnd.{answer_of}

pub turns : (c d : Configuration) → step c ≡ Next d → (n : ℕ) (answer : Answer) → after n d ≡ answer → after (suc n) c ≡ answer
turns c d q n answer e = ap (goes_on (λ d. after n d)) q ∙ e

ended : (end : RunEnd) (n : ℕ) → goes_on (λ d. after n d) (answer_of end) ≡ answer_of end
ended (end.Broken check line) n = refl
ended end.Ended n = refl

pub stops : (c : Configuration) (end : RunEnd) → step c ≡ answer_of end → after 1 c ≡ answer_of end
stops c end q = ap (goes_on (λ d. after 0 d)) q ∙ ended end 0
