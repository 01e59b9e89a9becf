-- No recorded file is honest: what is promised of an honest one is promised of none.
use Rattle.pk_changingfile.proofs.recorded.RecordedFileHeldFile.TheImpl.Goals as goal

pub hold-tells : goal.hold-tells
hold-tells g c = record {
  evolves = λ h. absurd h;
  failed = λ h. absurd h;
  interrupted = λ h. absurd h;
  asked = tt;
  held = λ h. absurd h;
  not_held = c.ensures.not_held;
}
