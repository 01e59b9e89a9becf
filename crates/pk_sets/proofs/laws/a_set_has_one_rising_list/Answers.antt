-- Rising lists with the same members are one.
use Rattle.pk_sets.proofs.PartLemmas.{rising_all}
use Rattle.pk_sets.proofs.CallerLemmas.{same_members}
use Rattle.pk_sets.proofs.laws.a_set_has_one_rising_list.Goals as goal

pub returns : goal.returns
returns c xs ys h k same = same_members xs ys (rising_all xs h) (rising_all ys k) same
