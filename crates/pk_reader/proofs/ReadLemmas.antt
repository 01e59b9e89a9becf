-- What is read from a snapshot was in force, and is no older than what it was opened for.
use Rattle.std.proofs.Common.{◌≡◌, ◌≤◌, inl, inr, ⊎_elim, ℕ, List, Option, Some, None, Result, Ok, Err, refl, sym, subst, arith}
use Rattle.std.specs.Prelude.{IfSome, IsSomeAnd, MatchOption}
use Rattle.pk_disk.specs.declared.units.Extent.{Extent}
use Rattle.pk_manifest.specs.declared.half.Half.{Half}
use Rattle.pk_manifest.specs.Evolves.{Evolves, in_force}
use Rattle.pk_manifest.proofs.Evolving.{evolves_then}
use Rattle.pk_model.specs.Collection.{Collection}
use Rattle.pk_model.specs.Steps.{Answer, Request}
use Rattle.pk_model.specs.declared.commands.Refusal.{Refusal}
use Rattle.pk_model.specs.declared.commands.Refusal.TheVariants.{NoSuchDocument, Damaged}
use Rattle.pk_model.specs.Views.{reply_of}
use Rattle.pk_model.specs.declared.commands.Reply.{Reply}
use Rattle.pk_reader.specs.Reading.{IsReadFrom, IsRightFor, ReadStep, ReadsAs}
use Rattle.pk_reader.specs.Refused.{RefusedOpening}
use Rattle.pk_reader.specs.Without.{refusal_without}
use Rattle.pk_reader.proofs.RefusedLemmas.{unsound_earlier}
use Rattle.pk_snapshot.specs.declared.fault.SnapshotFault.{SnapshotFault}
use Rattle.pk_snapshot.specs.declared.fault.SnapshotFault.TheVariants as shown
use Rattle.pk_snapshot.specs.Latest.{IsSnapshot}
use Rattle.pk_snapshot.specs.Shown.{shown_bytes}
use Rattle.pk_snapshot.proofs.LatestLemmas.{shown_force, shows_of}
use Rattle.pk_state.specs.Holds.{Holds}

module _ (start now : List ℕ) (half : Half) (g len : ℕ) (shown : List Extent) (is : IsSnapshot start half g len shown) (since : Evolves start now) (asked : List ℕ) (fresh : in_force asked ≤ in_force (shown_bytes len shown start)) where
  pub read_from : (Right : Collection → Type 0) → ((c : Collection) → Holds (shown_bytes len shown start) c → Right c) → IsReadFrom asked now Right
  read_from Right right = record {
    moment = start;
    until = since;
    half = half;
    generation = g;
    fresh = omega (arith, fresh, shown_force start half g len shown is);
    content = shown_bytes len shown start;
    shows = shows_of start half g len shown is;
    right = right;
  }

  pub reads_as : (request : Request) (reply : Result Answer Refusal) → ((c : Collection) → Holds (shown_bytes len shown start) c → IsRightFor request reply c) → ReadsAs asked now request reply
  reads_as request (Ok answer) right = read_from (IsRightFor request (Ok answer)) right
  reads_as request (Err NoSuchDocument) right = read_from (IsRightFor request (Err NoSuchDocument)) right
  reads_as request (Err Damaged) right = inl (read_from (IsRightFor request (Err Damaged)) right)
  reads_as request (Err why) right = tt

-- of what was in force earlier it was asked as well
older_from : (first asked now : List ℕ) (Right : Collection → Type 0) → in_force first ≤ in_force asked → IsReadFrom asked now Right → IsReadFrom first now Right
older_from first asked now Right low is = record {
  moment = is.moment;
  until = is.until;
  half = is.half;
  generation = is.generation;
  fresh = omega (arith, low, is.fresh);
  content = is.content;
  shows = is.shows;
  right = is.right;
}

older_as : (first asked now : List ℕ) (request : Request) (reply : Result Answer Refusal) → in_force first ≤ in_force asked → ReadsAs asked now request reply → ReadsAs first now request reply
older_as first asked now request (Ok answer) low is = older_from first asked now (IsRightFor request (Ok answer)) low is
older_as first asked now request (Err NoSuchDocument) low is = older_from first asked now (IsRightFor request (Err NoSuchDocument)) low is
older_as first asked now request (Err Damaged) low is = ⊎_elim
    (λ read. inl (older_from first asked now (IsRightFor request (Err Damaged)) low read))
    (λ none. inr (record { moment = none.moment; until = none.until; unsound = unsound_earlier first asked none.moment low none.unsound }))
    is
older_as first asked now request (Err why) low is = tt

pub older_step : (honest : Type 0) (first asked now : List ℕ) (request : Request) (reply : Result Answer Refusal) → (honest → in_force first ≤ in_force asked) → ReadStep honest asked request reply now → ReadStep honest first request reply now
older_step honest first asked now request reply low step = record {
  named = step.named;
  reads = λ h. older_as first asked now request reply (low h) (step.reads h);
}

-- A REPLY where there is no store
told_step : (honest : Type 0) (asked now marked : List ℕ) (request : Request) (why : SnapshotFault) (outcome : Result Answer Refusal) → IsSomeAnd (refusal_without why) (λ it. outcome ≡ Err it) → (honest → RefusedOpening asked now marked why) → (honest → Evolves marked now) → ReadStep honest asked request outcome now
told_step honest asked now marked request shown.TooSmall outcome told is since = subst (λ (o : Result Answer Refusal). ReadStep honest asked request o now) (sym told) (record { named = refl; reads = λ h. tt })
told_step honest asked now marked request shown.NotAStore outcome told is since = absurd told
told_step honest asked now marked request shown.Changed outcome told is since = absurd told
told_step honest asked now marked request shown.Damaged outcome told is since = subst (λ (o : Result Answer Refusal). ReadStep honest asked request o now) (sym told) (record { named = refl; reads = λ h. inr (record { moment = marked; until = since h; unsound = is h }) })
told_step honest asked now marked request shown.Memory outcome told is since = subst (λ (o : Result Answer Refusal). ReadStep honest asked request o now) (sym told) (record { named = refl; reads = λ h. tt })
told_step honest asked now marked request shown.Disk outcome told is since = subst (λ (o : Result Answer Refusal). ReadStep honest asked request o now) (sym told) (record { named = refl; reads = λ h. tt })

pub without_step : (honest : Type 0) (asked now marked : List ℕ) (request : Request) (why : SnapshotFault) (given : Option Reply) → MatchOption given (refusal_without why ≡ None) (λ reply. IsSomeAnd (refusal_without why) (λ it. reply_of reply ≡ Err it)) → (honest → RefusedOpening asked now marked why) → (honest → Evolves marked now) → IfSome given (λ reply. ReadStep honest asked request (reply_of reply) now)
without_step honest asked now marked request why None told is since = tt
without_step honest asked now marked request why (Some reply) told is since = told_step honest asked now marked request why (reply_of reply) told is since

-- and the file may go on behind it
later_from : (asked mid now : List ℕ) (Right : Collection → Type 0) → Evolves mid now → IsReadFrom asked mid Right → IsReadFrom asked now Right
later_from asked mid now Right since is = record {
  moment = is.moment;
  until = evolves_then is.moment mid now is.until since;
  half = is.half;
  generation = is.generation;
  fresh = is.fresh;
  content = is.content;
  shows = is.shows;
  right = is.right;
}

later_as : (asked mid now : List ℕ) (request : Request) (reply : Result Answer Refusal) → Evolves mid now → ReadsAs asked mid request reply → ReadsAs asked now request reply
later_as asked mid now request (Ok answer) since is = later_from asked mid now (IsRightFor request (Ok answer)) since is
later_as asked mid now request (Err NoSuchDocument) since is = later_from asked mid now (IsRightFor request (Err NoSuchDocument)) since is
later_as asked mid now request (Err Damaged) since is = ⊎_elim
    (λ read. inl (later_from asked mid now (IsRightFor request (Err Damaged)) since read))
    (λ none. inr (record { moment = none.moment; until = evolves_then none.moment mid now none.until since; unsound = none.unsound }))
    is
later_as asked mid now request (Err why) since is = tt

pub later_step : (honest : Type 0) (asked mid now : List ℕ) (request : Request) (reply : Result Answer Refusal) → (honest → Evolves mid now) → ReadStep honest asked request reply mid → ReadStep honest asked request reply now
later_step honest asked mid now request reply since step = record {
  named = step.named;
  reads = λ h. later_as asked mid now request reply (since h) (step.reads h);
}
