-- Calls in turn are commands for those who read the bytes beside them: what is shown of a moment is what one of them left.
use Rattle.std.proofs.Common.{◌≡◌, ℕ, zero, suc, ◌≤◌, inl, inr, Bool, true, false, List, [], ◌∷◌, drop, take, length, refl, sym, subst, arith}
use Rattle.pk_disk.specs.declared.disk.Disk.{Ghosts}
use Rattle.pk_manifest.specs.declared.half.Half.{Half}
use Rattle.pk_manifest.specs.Evolves.{AreTold, in_force}
use Rattle.pk_manifest.specs.Spelling.{Body}
use Rattle.pk_model.specs.Collection.{Collection}
use Rattle.pk_state.specs.Beside.{AreCommands, HoldsOneOf, IsCommand, IsMoment, IsShot, Left}
use Rattle.pk_state.specs.Holds.{Holds}
use Rattle.pk_state.specs.Legal.{State}
use Rattle.pk_state.specs.Session.{Session, Tells, marked_of, next_session, now_of}
use Rattle.pk_state.proofs.BesideLemmas.{means}
use Rattle.pk_state.proofs.SessionLemmas.{tells_next}
use Rattle.pk_store.specs.Beside.{HaveWholeStamps, IsCommandBy}
use Rattle.pk_store.specs.Calls.{AreCalls, Call, disk_after, store_after}
use Rattle.pk_store.specs.Readers.{AreWhole, HoldsLeft, HoldsSince, IsMomentIn, ServeReaders}
use Rattle.pk_store.specs.Steps.{Steps}
use Rattle.pk_store.specs.View.{Means, StoreView}
use Rattle.pk_store.proofs.ReadSteps.{marked_now}

module _ {D : Type 0} (d : Ghosts D) (h : d.honest) where
  -- what a store's bytes hold
  record Kept (s : StoreView D) (session : Session) : Type 0 where
    pub collection : Collection
    pub holds : Holds (d.content s.volume.disk) collection
    pub left : (image : List ℕ) → Holds image collection → HoldsLeft s.volume.reopen session image

  kept : (s : StoreView D) (session : Session) (state : State) (flag : Bool) → s.volume.reopen ≡ flag → Means d s state → Tells session state → Kept s session
  kept s session state false clear m t = record {
    collection = marked_of session;
    holds = subst (λ (c : Collection). Holds (d.content s.volume.disk) c) (sym t.marked) (marked_now d s state m clear);
    left = λ image is. subst (λ (b : Bool). HoldsLeft b session image) (sym clear) is;
  }
  kept s session state true flag m t = elim (m.left flag (d.content s.volume.disk) (record { size = refl; same = λ p shut. refl })) [
    | inl is ↦ record {
      collection = marked_of session;
      holds = subst (λ (c : Collection). Holds (d.content s.volume.disk) c) (sym t.marked) is;
      left = λ image there. subst (λ (b : Bool). HoldsLeft b session image) (sym flag) (inl there);
    }
    | inr is ↦ record {
      collection = now_of session;
      holds = subst (λ (c : Collection). Holds (d.content s.volume.disk) c) (sym t.now) is;
      left = λ image there. subst (λ (b : Bool). HoldsLeft b session image) (sym flag) (inr there);
    }
  ]

  -- a call is a command
  command_of : (old : StoreView D) (call : Call D) → Steps d old call.request call.reply call.store → (call.store.volume.reopen ≡ true → HaveWholeStamps (d.content old.volume.disk) (d.content call.store.volume.disk)) → IsCommand (d.content old.volume.disk) (d.content call.store.volume.disk)
  command_of old call step whole = by call.store.volume.reopen refl (step.beside h)
    where
      by : (flag : Bool) → call.store.volume.reopen ≡ flag → IsCommandBy flag (d.content old.volume.disk) (d.content call.store.volume.disk) → IsCommand (d.content old.volume.disk) (d.content call.store.volume.disk)
      by true flag is = is (whole flag)
      by false clear is = is

  abbrev left_by : StoreView D → Collection → Left
  left_by s c = record { bytes = d.content s.volume.disk; collection = c }

  -- THE CALLS AS COMMANDS, each with a collection that its bytes hold
  record Commands (old : StoreView D) (session : Session) (calls : List (Call D)) : Type 0 where
    pub collection : Collection
    pub rest : List Left
    pub commands : AreCommands (left_by old collection) rest
    pub moment : (bytes : List ℕ) → IsMomentIn d old calls bytes → IsMoment (left_by old collection) rest bytes
    pub left : (image : List ℕ) → HoldsOneOf (left_by old collection) rest image → HoldsSince old session calls 0 image

  commands_of : (old : StoreView D) (s : Session) (state : State) (calls : List (Call D)) → AreCalls d old calls → Means d old state → Tells s state → AreWhole d old calls → Commands old s calls
  commands_of old s state [] steps m t whole =
      let first = kept old s state old.volume.reopen refl m t in
      record {
        collection = first.collection;
        rest = [];
        commands = first.holds;
        moment = λ bytes is. is;
        left = λ image is. record { answered = 0; late = omega arith; most = omega arith; holds = first.left image is };
      }
  commands_of old s state (call ∷ calls) steps m t whole =
      let first = kept old s state old.volume.reopen refl m t in
      let next = steps.0.legal h state m in
      let more = commands_of call.store (next_session s call.request call.reply) next.0 calls steps.1 next.1 (tells_next steps.0.failed s state next.0 call.request call.reply t next.2) whole.1 in
      record {
        collection = first.collection;
        rest = left_by call.store more.collection ∷ more.rest;
        commands = (first.holds, (command_of old call steps.0 whole.0, more.commands));
        moment = λ bytes is. elim is [
          | inl amid ↦ inl amid
          | inr later ↦ inr (more.moment bytes later)
        ];
        left = λ image is. elim is [
          | inl here ↦ record { answered = 0; late = omega arith; most = omega arith; holds = first.left image here }
          | inr later ↦ (let found = more.left image later in record { answered = suc found.answered; late = omega arith; most = omega (arith, found.most); holds = found.holds })
        ];
      }

  pub shows : (old : StoreView D) (s : Session) (state : State) (calls : List (Call D)) (k : ℕ) → AreCalls d old calls → Means d old state → Tells s state → AreTold (d.content old.volume.disk) → AreWhole d old calls → k ≤ length calls
      → (bytes image : List ℕ) (half : Half) (g : ℕ) (b : Body) → IsMomentIn d (store_after old (take k calls)) (drop k calls) bytes → in_force (d.content (disk_after old calls k)) ≤ g → IsShot bytes image half g b → HoldsSince old s calls k image
  shows old s state calls zero steps m t told whole most bytes image half g b moment fresh shot =
      let all = commands_of old s state calls steps m t whole in
      all.left image (means bytes image half g b shot (left_by old all.collection) all.rest told all.commands (all.moment bytes moment) fresh)
  shows old s state [] (suc k) steps m t told whole most bytes image half g b moment fresh shot = absurd (omega (arith, most))
  shows old s state (call ∷ calls) (suc k) steps m t told whole most bytes image half g b moment fresh shot =
      let next = steps.0.legal h state m in
      let first = command_of old call steps.0 whole.0 in
      let rest = shows call.store (next_session s call.request call.reply) next.0 calls k steps.1 next.1 (tells_next steps.0.failed s state next.0 call.request call.reply t next.2)
      (first.evolves.told told) whole.1 (omega (arith, most)) bytes image half g b moment fresh shot in
      record { answered = suc rest.answered; late = omega (arith, rest.late); most = omega (arith, rest.most); holds = rest.holds }

  pub serve_readers : (old : StoreView D) (state : State) (calls : List (Call D)) → Means d old state → AreCalls d old calls → AreTold (d.content old.volume.disk) → AreWhole d old calls → ServeReaders d old state calls
  serve_readers old state calls m steps told whole = record {
    shows = λ session t k most bytes image half g b moment fresh shot. shows old session state calls k steps m t told whole most bytes image half g b moment fresh shot;
  }
