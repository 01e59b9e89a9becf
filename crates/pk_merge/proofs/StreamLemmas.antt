-- A segment given in its parts.
use Rattle.std.proofs.Common.{◌≡◌, ℕ, ◌+◌, ◌-◌, ◌≤◌, false, List, [], ◌∷◌, ◌++◌, length, take, drop, get_or, sym, ◌∙◌, ap, subst, append_assoc, append-nil, arith, length-append, Result, Ok, Err}
use Rattle.std.specs.Prelude.{All, OnOk}
use Rattle.std.proofs.lemmas.List.Elements.{All-head, All-tail}
use Rattle.pk_disk.specs.Disk.{in_range}
use Rattle.pk_join.specs.declared.input.MergeInput.{MergeInput}
use Rattle.pk_join.specs.Inputs.{LiesInside}
use Rattle.pk_join.proofs.ComeLemmas.{within_given}
use Rattle.pk_model.specs.Collection.{Doc}
use Rattle.pk_replace.specs.declared.stream.StreamFault.{StreamFault}
use Rattle.pk_segment.specs.Indexed.{dictionary, postings}
use Rattle.pk_segment.specs.Spelling.{directory, header_in, segment_length, segment_spelling, texts}
use Rattle.pk_segment.proofs.SegmentLemmas.{in_parts, length_segment}
use Rattle.pk_merge.specs.declared.kept.Kept.{Kept}
use Rattle.pk_merge.specs.declared.lists.Lists.{Lists}
use Rattle.pk_merge.specs.declared.lists.Lists.TheVariants.{Packed, Walked}
use Rattle.pk_merge.specs.declared.output.Output.{Output}
use Rattle.pk_merge.specs.Endings.{EndsWith}
use Rattle.pk_merge.specs.Keeping.{AreKept, EndBy, KeptApart}
use Rattle.pk_merge.specs.Lists.{AreOfInputs, AreWithin}
use Rattle.pk_merge.specs.Output.{IsFresh, LiesApart, count_given, given, places_of}
use Rattle.pk_merge.proofs.TextLemmas.{text_stays}

-- what is kept stays where the stretch alone changed
pub kept_stays : (b b' : List ℕ) (ks : List Kept) (docs : List Doc) (start end : ℕ) → length b' ≡ length b
    → ((p : ℕ) → in_range start (end - start) p ≡ false → get_or b' p 0 ≡ get_or b p 0)
    → All (KeptApart start end) ks → All (EndBy (length b)) ks → AreKept b ks docs → AreKept b' ks docs
kept_stays b b' [] [] start end long same apart inside are = tt
kept_stays b b' [] (d ∷ docs) start end long same apart inside are = absurd are
kept_stays b b' (k ∷ ks) [] start end long same apart inside are = absurd are
kept_stays b b' (k ∷ ks) (d ∷ docs) start end long same apart inside are = (
  record {
    number_is = are.0.number_is;
    len_is = are.0.len_is;
    text_is = text_stays b' b k.at k.len start end long same (All-head (KeptApart start end) k ks apart)
        (All-head (EndBy (length b)) k ks inside) ∙ are.0.text_is;
  },
  kept_stays b b' ks docs start end long same (All-tail (KeptApart start end) k ks apart)
      (All-tail (EndBy (length b)) k ks inside) are.1,
)

-- ---- the parts of a segment

pub all_bytes : (docs : List Doc) (front words : List ℕ) → front ≡ header_in docs 2 ++ directory 0 docs
    → words ≡ dictionary docs → (front ++ texts docs) ++ (postings docs ++ words) ≡ segment_spelling docs 2
all_bytes docs front words f w =
    let h = header_in docs 2 in
    let d = directory 0 docs in
    let behind = postings docs ++ dictionary docs in
    ap (λ (l : List ℕ). (l ++ texts docs) ++ (postings docs ++ words)) f
    ∙ ap (λ (l : List ℕ). ((h ++ d) ++ texts docs) ++ (postings docs ++ l)) w
    ∙ append_assoc (h ++ d) (texts docs) behind ∙ append_assoc h d (texts docs ++ behind)
    ∙ sym (in_parts docs 2)

-- how long they are
pub two_lengths : (docs : List Doc) (front words : List ℕ) → front ≡ header_in docs 2 ++ directory 0 docs
    → words ≡ dictionary docs → length (front ++ texts docs) + length (postings docs ++ words)
    ≡ segment_length docs 2
two_lengths docs front words f w = sym (length-append (front ++ texts docs) (postings docs ++ words))
    ∙ ap length (all_bytes docs front words f w) ∙ length_segment docs 2

-- an output that is as long as all has room for the first half
pub front_fits : (docs : List Doc) (front words : List ℕ) (o : Output) (start size : ℕ)
    → front ≡ header_in docs 2 ++ directory 0 docs → words ≡ dictionary docs → size ≡ segment_length docs 2
    → IsFresh start (start + size) o → o.at + o.filled + length (front ++ texts docs) ≤ o.end
front_fits docs front words o start size f w is fresh = omega (
  arith,
  two_lengths docs front words f w,
  is,
  fresh.at_is,
  fresh.end_is,
  fresh.none_held,
)

-- ---- an output from its start to its end

-- nothing was given yet
pub fresh_given : (bytes : List ℕ) (start end : ℕ) (o : Output) → IsFresh start end o → given bytes o ≡ []
fresh_given bytes start end o fresh =
    let n : o.at - o.start ≡ 0 = omega (arith, fresh.start_is, fresh.at_is) in
    ap (λ (k : ℕ). take k (drop o.start bytes) ++ take o.filled o.buffer.items) n
    ∙ ap (λ (k : ℕ). take k o.buffer.items) fresh.none_held

-- all that was given is written
pub flushed : {T : Type 0} (r : Result T StreamFault) (b b' bytes : List ℕ) (o o' : Output) (start size : ℕ)
    → OnOk r (given b' o' ≡ given b o) → OnOk r (o'.filled ≡ 0) → OnOk r (count_given o' ≡ count_given o)
    → o'.start ≡ start → given b o ≡ bytes → count_given o ≡ size → OnOk r (take size (drop start b') ≡ bytes)
flushed (Ok u) b b' bytes o o' start size same empty count at is long =
    let n : o'.at - o'.start ≡ size = omega (arith, count, empty, long) in
    ap (λ (k : ℕ). take k (drop start b')) (sym n) ∙ ap (λ (k : ℕ). take (o'.at - o'.start) (drop k b'))
    (sym at)
    ∙ sym (append-nil (take (o'.at - o'.start) (drop o'.start b')))
    ∙ ap (λ (k : ℕ). take (o'.at - o'.start) (drop o'.start b') ++ take k o'.buffer.items) (sym empty)
    ∙ same ∙ is
flushed (Err x) b b' bytes o o' start size same empty count at is long = tt

-- so it ends with what was given last
pub ends_with : {T : Type 0} (r : Result T StreamFault) (b b' front back : List ℕ) (o o' : Output) (start size : ℕ)
    → OnOk r (given b' o' ≡ given b o) → OnOk r (o'.filled ≡ 0) → OnOk r (count_given o' ≡ count_given o)
    → o'.start ≡ start → given b o ≡ front ++ back → o.start ≡ start → o.end ≡ start + size
    → OnOk r (o.at + o.filled ≡ o.end) → OnOk r (EndsWith back (take size (drop start b')))
ends_with (Ok u) b b' front back o o' start size same empty count at is from to whole = (
  front,
  flushed (Ok u) b b' (front ++ back) o o' start size same empty count at is (omega (arith, o.order, from, to, whole)),
)
ends_with (Err x) b b' front back o o' start size same empty count at is from to whole = tt

-- and what is given last is at the end
pub given_last : {T : Type 0} (r : Result T StreamFault) (all front back : List ℕ) → OnOk r (all ≡ front ++ back) → OnOk r (EndsWith back all)
given_last (Ok u) all front back is = (front, is)
given_last (Err x) all front back is = tt

-- a place that ends so many bytes after its start
pub places_are : (o : Output) (start size : ℕ) → o.start ≡ start → o.end ≡ start + size
    → places_of o ≡ in_range start size
places_are o start size s e =
    let n : o.end - o.start ≡ size = omega (arith, s, e) in
    ap (λ (k : ℕ). in_range k (o.end - o.start)) s ∙ ap (in_range start) n

-- inputs apart from a stretch are so by its other names
pub apart_there : (is : List MergeInput) (start end start' end' : ℕ) → start' ≡ start → end' ≡ end
    → All (LiesApart start end) is → All (LiesApart start' end') is
apart_there is start end start' end' s e apart = subst (λ (n : ℕ). All (LiesApart n end') is) (sym s)
    (subst (λ (n : ℕ). All (LiesApart start n) is) (sym e) apart)

-- what is walked through lies where its inputs do
pub lists_within : (size : ℕ) (inputs : List MergeInput) (lists : Lists) → AreOfInputs inputs lists
    → All (LiesInside size) inputs → AreWithin size lists
lists_within size inputs (Packed bytes) are inside = tt
lists_within size inputs (Walked walk encoded) are inside =
    within_given size inputs walk.inputs.items are.0 inside
