-- No recorded file is honest: what is promised of an honest one is promised of none.
use Rattle.pk_changingfile.proofs.recorded.RecordedFileSharedFile.TheImpl.Goals as goal

pub read_at-tells : goal.read_at-tells
read_at-tells g c = record {
  count = c.ensures.count;
  given = λ h. absurd h;
  evolves = λ h. absurd h;
  marked = λ h. absurd h;
  failed = λ h. absurd h;
  interrupted = λ h. absurd h;
}
