use Rattle.std.proofs.Common.{◌++◌}
use Rattle.c_model.specs.Programs.{types_of}
use Rattle.c_model.specs.Store.{born}
use Rattle.c_model.specs.Calls.{passed}
use Rattle.c_heads.proofs.Stores.{stored_is, held_is, opened, born_is, passed_is, survivors_are, outlived_values, outlived_place, stored_grows, grows_more, grown_values, grown_place}
use Rattle.c_heads.proofs.laws.store_stays_laid_out.Goals as goal

pub returns : goal.returns
returns c = record {
  storing = λ p store n t s v is h k. stored_is p store is n t s v h k;
  reading = λ p store n t s is h. held_is p store is n t s h;
  opening = λ p store numbers is. opened p store (born p numbers) is (born_is p store numbers);
  entering = λ p store parameters numbers found is h.
      opened p (store ++ passed p parameters found) (born p numbers) (opened p store (passed p parameters found) is (passed_is p store parameters found h)) (born_is p (store ++ passed p parameters found) numbers);
  leaving = λ p store n is. survivors_are p n store is;
  values_last = λ p store n t v h. outlived_values p n store (types_of p t) v h;
  places_last = λ p store n m t s le h. outlived_place p n store m t s le h;
  stored_stays = λ store s v. stored_grows v s store;
  more_stays = grows_more;
  values_stay = λ p store others t v g h. grown_values store others g (types_of p t) v h;
  places_stay = λ p store others n t s g le h. grown_place p store others n t s g le h;
}
