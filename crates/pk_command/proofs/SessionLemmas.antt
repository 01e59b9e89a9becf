-- What became of the disk is an era of it, by which each history goes on.
use Rattle.std.proofs.Common.{◌≡◌, ◌≤◌, ℕ, List, [], ◌∷◌, ◌++◌, length, slice_index, Option, ap, subst, sym, ◌∙◌, Result, Ok, Err}
use Rattle.pk_disk.specs.declared.disk.Disk.{Ghosts}
use Rattle.pk_disk.specs.Disk.{IsImage}
use Rattle.pk_check.specs.declared.body.Checked.{Checked}
use Rattle.pk_command.specs.Endings.{HoldsNoneBy, IsCheckOf, IsMade, IsSession, era_of}
use Rattle.pk_model.specs.declared.commands.Refusal.{Refusal}
use Rattle.pk_shell.specs.Called.{EndsByCalls}
use Rattle.pk_shell.specs.Script.{Ends}
use Rattle.pk_shell.specs.StoreStep.{StoreStep}
use Rattle.pk_shell.specs.declared.ending.Ended.{Ended}
use Rattle.pk_shell.specs.declared.ending.ShellFault.{ShellFault}
use Rattle.pk_store.specs.Checking.{Checks, ChecksBytes}
use Rattle.pk_store.specs.Eras.{Era, Extends}
use Rattle.pk_store.specs.Eras as era
use Rattle.pk_store.specs.Opening.{Creates, IsNoStoreFault, Opens}
use Rattle.pk_store.specs.View.{IsLookedAt, StoreView}
use Rattle.pk_store.specs.declared.refused.CreateFault.{CreateFault}
use Rattle.pk_store.specs.declared.refused.OpenFault.{OpenFault}
use Rattle.pk_store.specs.declared.refused.OpenFault.TheVariants.{TooSmall, NotAStore, Damaged, Disk, Memory}
use Rattle.pk_store.specs.declared.refused.Refused.{Refused}
use Rattle.pk_store.proofs.HistoryLemmas.{between, closed}

module _ {D : Type 0} (d : Ghosts D) (only_now : d.honest → (x : D) (image : List ℕ) → d.images_since x (d.moment x) image → IsImage (d.content x) (d.is_open x) image)
    (counts_now : d.honest → (x : D) (t : ℕ) (image : List ℕ) → t ≤ d.moment x → IsImage (d.content x) (d.is_open x) image → d.images_since x t image) (disk : D) where
  -- an era goes on to the disk that is handed back
  extended : (disk' last : D) (e : Era D) → disk' ≡ last → Extends d e last → Extends d e disk'
  extended disk' last e is extends = subst (Extends d e) (sym is) extends

  pub session : (disk' : D) (opened left : StoreView D) (r r' w w' : Option (List ℕ)) (how : Result Ended ShellFault) → Opens d disk (Ok opened) → Ends (StoreStep d) opened r r' w w' how left → EndsByCalls d opened r r' w w' how left
      → disk' ≡ left.volume.disk → IsSession d disk disk' r r' w w' how
  session disk' opened left r r' w w' how opens ends calls is =
      let lived = era_of era.opened disk opened calls.calls in
      record {
        opened = opened;
        left = left;
        opens = opens;
        ends = ends;
        calls = calls;
        handed = is;
        extends = λ h. extended disk' left.volume.disk lived is
            (subst (λ (s : StoreView D). Extends d lived s.volume.disk) calls.last (closed d h (only_now h) (counts_now h) lived (opens, calls.are)));
      }

  pub unopened : (refused : Refused D OpenFault) → Opens d disk (Err refused) → d.honest → Extends d (era.unopened disk (Err refused)) refused.disk
  unopened refused opens h = closed d h (only_now h) (counts_now h) (era.unopened disk (Err refused)) opens

  pub made : (disk' : D) (store : StoreView D) → Creates d disk (Ok store) → disk' ≡ store.volume.disk → IsMade d disk disk'
  made disk' store creates is =
      let lived = era_of era.created disk store [] in
      record { made = store; creates = creates; handed = is; extends = λ h. extended disk' store.volume.disk lived is (closed d h (only_now h) (counts_now h) lived (creates, tt)) }

  pub uncreated : (refused : Refused D CreateFault) → Creates d disk (Err refused) → d.honest → Extends d (era.uncreated disk (Err refused)) refused.disk
  uncreated refused creates h = closed d h (only_now h) (counts_now h) (era.uncreated disk (Err refused)) creates

  -- a store that was only looked at is closed as it was opened
  looked : (store left : StoreView D) → Opens d disk (Ok store) → IsLookedAt d store left → d.honest → Extends d (era_of era.opened disk store []) left.volume.disk
  looked store left opens is h first eras past =
      let read = is.volume.disk.read h in
      between d first (eras ++ era_of era.opened disk store [] ∷ []) store.volume.disk left.volume.disk
      (closed d h (only_now h) (counts_now h) (era_of era.opened disk store []) (opens, tt) first eras past)
      (record { size = ap length read.bytes; same = λ p shut. ap (λ (b : List ℕ). slice_index b p) read.bytes })
      (read.positions ∙ opens.closed h)

  pub checked : (disk' : D) (store left : StoreView D) (result : Result Checked Refusal) → Opens d disk (Ok store) → Checks d store result left → disk' ≡ left.volume.disk → IsCheckOf d disk disk' result
  checked disk' store left result opens checks is = record {
    opened = store;
    left = left;
    opens = opens;
    checks = checks;
    answered = λ h. subst (λ (b : List ℕ). ChecksBytes b result) (opens.content h) (checks.checked h opens.fresh.clear);
    handed = is;
    extends = λ h. extended disk' left.volume.disk (era_of era.opened disk store []) is (looked store left opens checks.looked_at h);
  }

  -- a disk that did not open holds no collection, where that is the reason
  pub none_held : (refused : Refused D OpenFault) (why : OpenFault) → refused.why ≡ why → Opens d disk (Err refused) → d.honest → HoldsNoneBy (d.content disk) why
  none_held refused TooSmall is opens h = tt
  none_held refused NotAStore is opens h = λ c holds. subst (IsNoStoreFault (d.content disk)) is (opens.means h c holds)
  none_held refused Damaged is opens h = λ c holds. subst (IsNoStoreFault (d.content disk)) is (opens.means h c holds)
  none_held refused Disk is opens h = tt
  none_held refused Memory is opens h = tt
