-- What a growth in a file comes to: a file that was made longer holds the store that it held.
use Rattle.std.proofs.Common.{Result, Ok, Err, None, IfOk, ◌≡◌, ⊎_elim, ℕ, ◌+◌, ◌*◌, ◌-◌, ◌^◌, ◌<◌, ◌≤◌, Bool, List, length, sym, ap, subst, ◌∙◌, arith}
use Rattle.pk_disk.specs.Disk.{IsImage, in_range, nowhere, opened, written}
use Rattle.pk_disk.specs.Since.{NoneNew, OnlyNew}
use Rattle.pk_disk.proofs.Images.{closed_image}
use Rattle.pk_disk.proofs.Moments.{none_only, none_then_only, only_then, weaker}
use Rattle.pk_filedisk.specs.Raw.{IsExtended}
use Rattle.pk_filedisk.specs.Resized.{resized, resized_same}
use Rattle.pk_filedisk.specs.declared.raw.RawFile.{Ghosts}
use Rattle.pk_manifest.specs.declared.fault.ManifestFault.{ManifestFault}
use Rattle.pk_manifest.specs.declared.fault.ManifestFault.TheVariants.{NotAStore, Damaged, Disk, UsedUp, Memory}
use Rattle.pk_manifest.specs.declared.half.Half.{Half}
use Rattle.pk_manifest.specs.Bodies.{bodies_end, gate_place, has_open_gate, other}
use Rattle.pk_manifest.specs.Current.{HasBodyOf, units_of_disk}
use Rattle.pk_manifest.specs.Spelling.{Body}
use Rattle.pk_manifest.specs.Said.{said_units}
use Rattle.pk_model.specs.Collection.{Collection}
use Rattle.pk_state.specs.Holds.{Holds}
use Rattle.pk_grow.specs.Growth.{GrowsAs, HoldsEither, HoldsStore, IsDue, IsSoundFault, session_units, store_bytes}
use Rattle.pk_grow.specs.GrownFile.{GrowsFile, greater}
use Rattle.pk_grow.specs.Shutting.{GetsLonger, shut_places, shutting}
use Rattle.pk_grow.specs.declared.fault.GrowFault.{GrowFault}
use Rattle.pk_grow.specs.declared.fault.GrowFault.TheVariants.{Shorter, Store}
use Rattle.pk_grow.specs.declared.fault.Growth.TheVariants.{AsItWas, Grown}
use Rattle.pk_grow.proofs.GrowthLemmas.{either_stores, failed_as}
use Rattle.pk_grow.proofs.ShutLemmas.{begins_itself, begins_written, shut_holds, shut_stores, shuts_within}
use Rattle.pk_grow.proofs.StoreLemmas.{store_fits, units_of_sound}

-- a refusal of the body that was due is one of the growth
pub due_refused : (fault : GrowFault) (units : ℕ) (bytes : List ℕ) → IsDue units bytes (Err fault) → GrowsAs units bytes (Err fault)
due_refused Shorter units bytes due = due
due_refused (Store NotAStore) units bytes due = due
due_refused (Store Damaged) units bytes due = due
due_refused (Store Disk) units bytes due = tt
due_refused (Store UsedUp) units bytes due = absurd due
due_refused (Store Memory) units bytes due = tt

-- what a disk's images are is what its file's are
pub of_file : {D F : Type 0} (file : D → F) (moment : F → ℕ) (images_since : F → ℕ → List ℕ → Type 0) (old new : D) (P : List ℕ → Type 0)
    → OnlyNew (λ (d : D). moment (file d)) (λ (d : D). images_since (file d)) old new P → OnlyNew moment images_since (file old) (file new) P
of_file file moment images_since old new P only = record { later = only.later; each = only.each }

-- ---- the body is read, then the file is made longer, and then the store grows

-- the file whose body was read
pub record IsRead {F : Type 0} (f : Ghosts F) (bytes : List ℕ) (old mid : F) : Type 0 where
  pub none : NoneNew f.moment f.images_since old mid
  pub same : f.content mid ≡ bytes
  pub closed : f.is_open mid ≡ nowhere

-- as what its disk shows was
pub was_read : {D F : Type 0} (f : Ghosts F) (file : D → F) (old mid : D) (bytes : List ℕ) (len : ℕ) → NoneNew (λ (d : D). f.moment (file d)) (λ (d : D). f.images_since (file d)) old mid
    → length (f.content (file mid)) ≡ len → resized len (f.content (file mid)) ≡ bytes → f.is_open (file mid) ≡ nowhere → IsRead f bytes (file old) (file mid)
was_read f file old mid bytes len none long same closed = record {
  none = record { later = none.later; each = none.each };
  same = sym (resized_same len (f.content (file mid)) long) ∙ same;
  closed = closed;
}

-- and its spare gate was shut as it got longer, or the system refused that
module _ {F : Type 0} {f : Ghosts F} {bytes : List ℕ} {old mid : F} (read : IsRead f bytes old mid) (s : Half) where
  -- it was not asked for that
  pub not_asked : GetsLonger f bytes s old mid (f.content mid)
  not_asked = record {
    start = subst (λ (l : List ℕ). IsExtended bytes (shut_places bytes s) l) (sym read.same) (begins_itself bytes (shut_places bytes s));
    images = none_only f.moment f.images_since old mid _ read.none;
  }

  module _ (at len : ℕ) (new : List ℕ) (place : at ≡ gate_place s) (shuts : new ≡ shutting (has_open_gate bytes s)) where
    images_of : (long : F) → OnlyNew f.moment f.images_since mid long (IsExtended bytes (opened (f.is_open mid) at (length new))) → OnlyNew f.moment f.images_since old long (IsExtended bytes (shut_places bytes s))
    images_of long images = none_then_only f.moment f.images_since old mid long _ read.none
        (subst (λ (o : ℕ → Bool). OnlyNew f.moment f.images_since mid long (IsExtended bytes o)) (λ i. opened (read.closed i) (place i) (length (shuts i))) images)

    start_of : (left : List ℕ) → IsExtended bytes (in_range at (length new)) left → IsExtended bytes (shut_places bytes s) left
    start_of left is = subst (λ (o : ℕ → Bool). IsExtended bytes o left) (λ i. in_range (place i) (length (shuts i))) is

    pub got_longer : {D : Type 0} (r : Result D F) (file : D → F) (content : D → List ℕ) → bodies_end ≤ length bytes → length bytes ≤ len → IfOk r (λ d. content d ≡ resized len (written bytes at new))
        → IfOk r (λ d. OnlyNew f.moment f.images_since mid (file d) (IsExtended bytes (opened (f.is_open mid) at (length new)))) → IfOk r (λ d. GetsLonger f bytes s old (file d) (content d))
    got_longer (Ok d) file content room le is images =
        let fits : at + length new ≤ length bytes = omega (arith, place, ap length shuts, shuts_within s (has_open_gate bytes s), room) in
        record { start = start_of (content d) (begins_written bytes (content d) new at len fits le is); images = images_of (file d) images }
    got_longer (Err left) file content room le is images = is

-- the body that it has is to grow
pub record IsDueOf (bytes : List ℕ) (units : ℕ) (half s : Half) (b : Body) : Type 0 where
  pub has : HasBodyOf (session_units bytes) bytes half b
  pub fewer : session_units bytes < units
  pub least : 64 ≤ b.units
  pub spare : s ≡ other half

-- then the file was made longer, for that body to grow to so many units
pub record IsLonger {F : Type 0} (f : Ghosts F) (bytes : List ℕ) (units : ℕ) (s : Half) (mid long : F) (more : List ℕ) : Type 0 where
  pub room : units ≤ units_of_disk more
  pub size : length more ≡ greater (length bytes) (512 * units)
  pub content : f.content long ≡ more
  pub closed : f.is_open long ≡ nowhere
  pub gets : GetsLonger f bytes s mid long more

-- and then the body of the growth was put in force, or not
pub record IsReplaced {F : Type 0} (f : Ghosts F) (more : List ℕ) (u units : ℕ) (long new : F) : Type 0 where
  pub moments : (c : Collection) → Holds (store_bytes u more) c → OnlyNew f.moment f.images_since long new (λ image. (length image ≡ length more) × HoldsEither u units c image)
  pub counts_now : f.moment long ≤ f.moment new → f.images_since new (f.moment long) (f.content new)
  pub only_now : (image : List ℕ) → f.images_since long (f.moment long) image → IsImage (f.content long) (f.is_open long) image

-- what is read of a file then is one of its images
pub file_left : {F : Type 0} (f : Ghosts F) (long new : F) (c : Collection) → (f.moment long ≤ f.moment new → f.images_since new (f.moment long) (f.content new))
    → ((image : List ℕ) → f.images_since long (f.moment long) image → IsImage (f.content long) (f.is_open long) image) → f.is_open long ≡ nowhere → HoldsStore (f.content long) c
    → OnlyNew f.moment f.images_since long new (λ image. HoldsStore image c) → HoldsStore (f.content new) c
file_left f long new c counts only_now closed holds only = ⊎_elim
    (λ was. subst (λ (b : List ℕ). HoldsStore b c) (sym (closed_image (f.content long) (f.content new) (subst (λ (o : ℕ → Bool). IsImage (f.content long) o (f.content new)) closed (only_now (f.content new) was)))) holds)
    (λ now. now)
    (only.each (f.moment long) (f.content new) (omega arith) (counts only.later))

module _ {F : Type 0} {f : Ghosts F} {bytes : List ℕ} {old mid : F} (read : IsRead f bytes old mid) where
  kept_so_far : (c : Collection) → HoldsStore bytes c → HoldsStore (f.content mid) c
  kept_so_far c holds = subst (λ (b : List ℕ). HoldsStore b c) (sym read.same) holds

  -- it has as many units
  pub long_enough : {units : ℕ} → IsDue units bytes (Ok None) → GrowsFile f bytes old mid units (Ok AsItWas)
  long_enough {units} due = record {
    any_moment = λ c holds. none_only f.moment f.images_since old mid _ read.none;
    kept = kept_so_far;
    done = λ c holds. subst (λ (b : List ℕ). Holds (store_bytes units b) c) (sym read.same) (subst (λ (u : ℕ). Holds (store_bytes u bytes) c) due.1 holds);
    size = omega (arith, ap length read.same, due.1, store_fits (length bytes) (said_units bytes));
    closed = read.closed;
    answered = due;
  }

  -- no body was due
  pub none_due : {units : ℕ} → (fault : GrowFault) → IsDue units bytes (Err fault) → GrowsFile f bytes old mid units (Err fault)
  none_due {units} fault due = record {
    any_moment = λ c holds. none_only f.moment f.images_since old mid _ read.none;
    kept = kept_so_far;
    done = λ c holds. tt;
    size = tt;
    closed = tt;
    answered = due_refused fault units bytes due;
  }

  module _ {units : ℕ} {half s : Half} {b : Body} (due : IsDueOf bytes units half s b) where
    as_long : {left : List ℕ} (long : F) → GetsLonger f bytes s mid long left → (c : Collection) → HoldsStore bytes c → OnlyNew f.moment f.images_since old long (λ image. HoldsStore image c)
    as_long long gets c holds = none_then_only f.moment f.images_since old mid long _ read.none
        (weaker f.moment f.images_since mid long _ _ (λ image is. shut_stores bytes image b half s due.spare due.least due.has is c holds) gets.images)

    -- it was not made longer
    pub not_longer : (long : F) → GetsLonger f bytes s mid long (f.content long) → GrowsFile f bytes old long units (Err (Store Disk))
    not_longer long gets = record {
      any_moment = as_long long gets;
      kept = λ c holds. shut_stores bytes (f.content long) b half s due.spare due.least due.has gets.start c holds;
      done = λ c holds. tt;
      size = tt;
      closed = tt;
      answered = tt;
    }

    module _ {long new : F} {more : List ℕ} (longer : IsLonger f bytes units s mid long more) (replaced : IsReplaced f more b.units units long new) where
      held : (c : Collection) → HoldsStore bytes c → Holds (store_bytes b.units more) c
      held = shut_holds bytes more b half s due.spare due.least due.has longer.gets.start

      since_long : (c : Collection) → HoldsStore bytes c → OnlyNew f.moment f.images_since long new (λ image. HoldsStore image c)
      since_long c holds = either_stores f.moment f.images_since long new more b.units units c due.least (omega (arith, due.fewer, units_of_sound (session_units bytes) b due.has.sound)) longer.room (replaced.moments c (held c holds))

      moments : (c : Collection) → HoldsStore bytes c → OnlyNew f.moment f.images_since old new (λ image. HoldsStore image c)
      moments c holds = only_then f.moment f.images_since old long new _ (as_long long longer.gets c holds) (since_long c holds)

      kept : (c : Collection) → HoldsStore bytes c → HoldsStore (f.content new) c
      kept c holds = file_left f long new c replaced.counts_now replaced.only_now longer.closed
          (subst (λ (x : List ℕ). HoldsStore x c) (sym longer.content) (shut_stores bytes more b half s due.spare due.least due.has longer.gets.start c holds)) (since_long c holds)

      pub grew_file : ((c : Collection) → Holds (store_bytes b.units more) c → Holds (store_bytes units (f.content new)) c) → length (f.content new) ≡ length more → f.is_open new ≡ nowhere → GrowsFile f bytes old new units (Ok Grown)
      grew_file done size closed = record {
        any_moment = moments;
        kept = kept;
        done = λ c holds. done c (held c holds);
        size = size ∙ longer.size;
        closed = closed;
        answered = (record { half = half; body = b; is = due.has }, due.fewer);
      }

      pub not_grown : (fault : ManifestFault) → IsSoundFault fault → (fault ≡ UsedUp → b.generation ≡ 2 ^ 64 - 1) → GrowsFile f bytes old new units (Err (Store fault))
      not_grown fault sound last = record {
        any_moment = moments;
        kept = kept;
        done = λ c holds. tt;
        size = tt;
        closed = tt;
        answered = failed_as fault bytes units half b due.has sound last;
      }
