-- What a store answers that is only read is right for what its disk holds, and it goes on meaning that.
use Rattle.std.proofs.Common.{◌≡◌, ℕ, Bool, true, false, ◌∙◌, refl, sym, subst, ap, None, Some, Result, Ok, Err}
use Rattle.std.specs.Prelude.{MatchBool, if◌then◌else◌}
use Rattle.std.proofs.Math.Logic.{∥∥₁_map}
use Rattle.std.proofs.Props.{props}
use mathlib.Core.Sum.{⊎_set}
use Rattle.pk_disk.specs.declared.disk.Disk.{Ghosts}
use Rattle.pk_model.specs.Collection.{Collection, is_live}
use Rattle.pk_model.specs.Steps.{Answer, Request, add, delete, find, show, commit, merge, tidy, count}
use Rattle.pk_model.specs.declared.commands.Refusal.{Refusal}
use Rattle.pk_model.specs.declared.commands.Refusal.TheVariants.{Reopen, NoSuchDocument, Damaged}
use Rattle.pk_reader.specs.Asking.{request_of}
use Rattle.pk_reader.specs.Reading.{IsMissingFrom, IsNamed, IsRightFor, reads_refuse}
use Rattle.pk_reader.specs.declared.question.Question.{Question}
use Rattle.pk_reader.specs.declared.question.Question.TheVariants as question
use Rattle.pk_state.specs.Holds.{Holds}
use Rattle.pk_state.specs.Legal.{LegalStep, RefusesDue, State}
use Rattle.pk_store.specs.Opening.{IsStoreOf, Opens}
use Rattle.pk_store.specs.Steps.{IsFlagAnswer, IsUndamaged, Steps, may_refuse}
use Rattle.pk_store.specs.View.{IsLookedAt, Means, StoreView}
use Rattle.pk_store.proofs.ReadSteps.{means_read, on_volume}

-- the commands that only read
Reads : Request → Type 0
Reads (find query) = Unit {0}
Reads (show n) = Unit {0}
Reads count = Unit {0}
Reads (add text) = ⊥
Reads (delete n) = ⊥
Reads commit = ⊥
Reads merge = ⊥
Reads tidy = ⊥

reads_of : (q : Question) → Reads (request_of q)
unfolding Reads
reads_of (question.Find query) = tt
reads_of (question.Show n) = tt
reads_of question.Count = tt

-- A REFUSAL IS NAMED
named_why : (request : Request) (why : Refusal) → Reads request → may_refuse request why ≡ true → (why ≡ Reopen → ⊥) → reads_refuse request why ≡ true
unfolding Reads
named_why (find query) Reopen reads may not = absurd (not refl)
named_why (show n) Reopen reads may not = absurd (not refl)
named_why count Reopen reads may not = absurd (not refl)
named_why (add text) why reads may not = absurd reads
named_why (delete n) why reads may not = absurd reads
named_why commit why reads may not = absurd reads
named_why merge why reads may not = absurd reads
named_why tidy why reads may not = absurd reads
named_why request why reads may not = cc

no_reopen : (why : Refusal) (flag : Bool) → IsFlagAnswer (Err why) flag → flag ≡ false → why ≡ Reopen → ⊥
no_reopen why flag is clear same =
    let yes : flag ≡ true = subst (λ (w : Refusal). IsFlagAnswer (Err w) flag) same is in
    cc

pub named_of : {D : Type 0} (d : Ghosts D) (old new : StoreView D) (q : Question) (reply : Result Answer Refusal) → Steps d old (request_of q) reply new → old.volume.reopen ≡ false → IsNamed (request_of q) reply
named_of d old new q (Ok answer) step clear = tt
named_of d old new q (Err why) step clear = named_why (request_of q) why (reads_of q) step.refused.named (no_reopen why old.volume.reopen step.reopen clear)

-- AN ANSWER IS RIGHT
by_clear : (b : Bool) (P Q : Type 0) → b ≡ false → MatchBool b P Q → Q
by_clear true P Q is m = absurd (cc)
by_clear false P Q is m = m

missing_by : (b failed : Bool) (state : State) (n : ℕ) (state' : State) → RefusesDue (if b then None else Some NoSuchDocument) failed state (show n) NoSuchDocument state' → b ≡ false
missing_by true failed state n state' is = absurd is.1
missing_by false failed state n state' is = refl

missing_from : (failed : Bool) (state : State) (request : Request) (state' : State) → LegalStep failed state request (Err NoSuchDocument) state' → state.reopen ≡ false → IsMissingFrom request state.now
unfolding LegalStep
missing_from failed state (show n) state' legal clear =
    missing_by (is_live n state.now.documents) failed state n state' (by_clear state.reopen _ _ clear legal)
missing_from failed state request state' legal clear = tt

right_by : (failed : Bool) (state : State) (request : Request) (reply : Result Answer Refusal) (state' : State) → LegalStep failed state request reply state' → IsUndamaged reply → state.reopen ≡ false → IsRightFor request reply state.now
unfolding LegalStep
right_by failed state request (Ok answer) state' legal sound clear = legal.reply
right_by failed state request (Err NoSuchDocument) state' legal sound clear = missing_from failed state request state' legal clear
right_by failed state request (Err Damaged) state' legal sound clear = sound
right_by failed state request (Err why) state' legal sound clear = tt

pub right_of : {D : Type 0} (d : Ghosts D) (h : d.honest) (old new : StoreView D) (request : Request) (reply : Result Answer Refusal) → Steps d old request reply new → (c : Collection) → IsStoreOf d old c → IsRightFor request reply c
right_of d h old new request reply step c of =
    let legal = step.legal h of.state of.means in
    let clear : of.state.reopen ≡ false = ap (λ (x : State). x.reopen) of.means.state_is ∙ of.clear in
    subst (λ (x : Collection). IsRightFor request reply x) of.now_is (right_by step.failed of.state request reply legal.0 legal.2 (step.undamaged h of.state of.means) clear)

missing_prop : (request : Request) (c : Collection) → IsProp (IsMissingFrom request c)
missing_prop (show n) c = hlevel props
missing_prop request c = hlevel props

pub right_prop : (request : Request) (reply : Result Answer Refusal) (c : Collection) → IsProp (IsRightFor request reply c)
right_prop request (Ok answer) c = hlevel (props, ⊎_set)
right_prop request (Err NoSuchDocument) c = missing_prop request c
right_prop request (Err Damaged) c = hlevel props
right_prop request (Err why) c = hlevel props

-- IT GOES ON MEANING THAT, where its disk was only read
pub store_kept : {D : Type 0} (d : Ghosts D) (h : d.honest) (old new : StoreView D) → IsLookedAt d old new → (c : Collection) → IsStoreOf d old c → IsStoreOf d new c
store_kept {D} d h old new looked c of =
    let same : on_volume old new.volume ≡ new = λ i. record { volume = new.volume; buffer = sym looked.buffer i; next = sym looked.next i } in
    record {
      state = of.state;
      means = subst (λ (s : StoreView D). Means d s of.state) same (means_read d old of.clear new.volume looked.volume h of.state of.means);
      marked_is = of.marked_is;
      now_is = of.now_is;
      clear = looked.volume.reopen ∙ of.clear;
    }

pub means_kept : {D : Type 0} (d : Ghosts D) (old new : StoreView D) → IsLookedAt d old new → (d.honest → (c : Collection) → Holds (d.content old.volume.disk) c → ∥ IsStoreOf d old c ∥₁) → d.honest → (c : Collection) → Holds (d.content new.volume.disk) c → ∥ IsStoreOf d new c ∥₁
means_kept d old new looked means h c holds =
    let same : d.content new.volume.disk ≡ d.content old.volume.disk = (looked.volume.disk.read h).bytes in
    ∥∥₁_map (means h c (subst (λ bytes. Holds bytes c) same holds)) (store_kept d h old new looked c)

-- as it is opened
pub means_opened : {D : Type 0} (d : Ghosts D) (disk : D) (s : StoreView D) → Opens d disk (Ok s) → d.honest → (c : Collection) → Holds (d.content s.volume.disk) c → ∥ IsStoreOf d s c ∥₁
means_opened d disk s o h c holds = ∣ o.means h c (subst (λ bytes. Holds bytes c) (o.content h) holds) ∣₁
