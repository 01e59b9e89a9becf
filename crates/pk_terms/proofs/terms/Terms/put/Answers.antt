-- The word is put behind the others, or only its bytes are, which changes no word.
use Rattle.std.proofs.Common.{◌≡◌, ◌∙◌, ◌++◌, ◌∷◌, [], Contains, Result, Ok, Err, OnErr, sym, ap, ap₂, subst, length, string_bytes, arith, length-append}
use Rattle.std.specs.Str.{IsUtf8}
use Rattle.std.proofs.lemmas.List.{with_items_is, length-map}
use Rattle.std.proofs.lemmas.Str.{IsUtf8-string_bytes}
use Rattle.pk_terms.specs.declared.terms.Entry.{Entry}
use Rattle.pk_terms.specs.Fingerprints.{hash_of}
use Rattle.pk_terms.specs.Slots.{HaveSlots}
use Rattle.pk_terms.specs.Table.{hashes_of, words_in}
use Rattle.pk_terms.proofs.TableLemmas.{table_is, table_longer, table_more, words_longer, words_more}
use Rattle.pk_terms.proofs.terms.Terms.put.Goals as goal

on_err : {T E : Type 0} (r : Result T E) (P : Type 0) → P → OnErr r P
on_err (Ok x) P p = tt
on_err (Err e) P p = p

pub invariant_of-self-in_err-fill_slot : goal.invariant_of-self-in_err-fill_slot
invariant_of-self-in_err-fill_slot c =
    let s = c.self.inside in
    let slots = c.make_room.new.slots in
    let have : HaveSlots (hashes_of s.entries.items) slots.items = subst (λ es. HaveSlots (hashes_of es) slots.items) c.deref.ensures.value c.make_room.ensures.slots in
    let len : length c.fill_slot.new.slots ≡ slots.len = c.fill_slot.ensures.len ∙ ap length c.deref_mut.ensures.value ∙ sym slots.ok.0 in
    table_is s.entries.items c.reserve.new.self.items (string_bytes s.text ++ c.args.word.now) (string_bytes c.push_str.new.self) slots.items _
    c.reserve.ensures.items c.in_ok-push_str.ensures.bytes (with_items_is slots c.fill_slot.new.slots len ∙ c.in_err-fill_slot.ensures.err ∙ c.deref_mut.ensures.value)
    (table_longer (string_bytes s.text) c.args.word.now s.entries.items s.slots.items slots.items c.self.invariant have)

pub returns-in_err-fill_slot-clause-err : goal.returns-in_err-fill_slot-clause-err
returns-in_err-fill_slot-clause-err c =
    let s = c.self.inside in
    on_err c.from_residual-in_err-fill_slot.result _
    (ap₂ words_in c.reserve.ensures.items c.in_ok-push_str.ensures.bytes
    ∙ words_longer (string_bytes s.text) c.args.word.now s.entries.items c.self.invariant.parts ∙ c.self.view_is)

pub invariant_of-self-2 : goal.invariant_of-self-2
invariant_of-self-2 c =
    let s = c.self.inside in
    let bytes = string_bytes s.text in
    let word = c.args.word.now in
    let entries = s.entries.items in
    let slots = c.make_room.new.slots in
    let print = c.fingerprint-fingerprint in
    let e : Entry = record { fingerprint = print.result; start = c.len-start.result; end = c.saturating_add-end.result } in
    let have : HaveSlots (hashes_of entries) slots.items = subst (λ es. HaveSlots (hashes_of es) slots.items) c.deref.ensures.value c.make_room.ensures.slots in
    let place : length (hashes_of entries) ≡ c.len-place.result =
    length-map entries (λ (x : Entry). hash_of x.fingerprint) ∙ sym (c.len-place.ensures ∙ s.entries.ok.0) in
    let more = c.in_ok-fill_slot.ensures.ok (hashes_of entries) place (subst (HaveSlots (hashes_of entries)) (sym c.deref_mut.ensures.value) have) in
    let held = subst (λ h. HaveSlots (hashes_of entries ++ h ∷ []) c.fill_slot.new.slots) c.hash_of.ensures more in
    let len : length c.fill_slot.new.slots ≡ slots.len = c.fill_slot.ensures.len ∙ ap length c.deref_mut.ensures.value ∙ sym slots.ok.0 in
    let longer : IsUtf8 (bytes ++ word) = subst IsUtf8 c.in_ok-push_str.ensures.bytes (IsUtf8-string_bytes c.push_str.new.self) in
    let start : c.len-start.result ≡ length bytes = c.len-start.ensures ∙ s.text.bytes.ok.0 in
    let end : c.saturating_add-end.result ≡ length (bytes ++ word) = omega (arith, c.saturating_add-end.ensures, start, length-append bytes word) in
    let new : Contains (words_in entries bytes) word → ⊥ = λ h. c.requires (subst (λ ws. Contains ws word) c.self.view_is h) in
    table_is (entries ++ e ∷ []) c.push_reserved.new.self.items (bytes ++ word) (string_bytes c.push_str.new.self) c.fill_slot.new.slots _
    (c.push_reserved.ensures.items ∙ ap (λ es. es ++ e ∷ []) c.reserve.ensures.items) c.in_ok-push_str.ensures.bytes (with_items_is slots c.fill_slot.new.slots len)
    (table_more entries bytes word e start end print.ensures.value print.ensures.bytes (IsUtf8-string_bytes s.text) longer s.slots.items c.fill_slot.new.slots c.self.invariant new held)

pub returns-clause-ok : goal.returns-clause-ok
returns-clause-ok c =
    let s = c.self.inside in
    let bytes = string_bytes s.text in
    let word = c.args.word.now in
    let entries = s.entries.items in
    let print = c.fingerprint-fingerprint in
    let e : Entry = record { fingerprint = print.result; start = c.len-start.result; end = c.saturating_add-end.result } in
    let longer : IsUtf8 (bytes ++ word) = subst IsUtf8 c.in_ok-push_str.ensures.bytes (IsUtf8-string_bytes c.push_str.new.self) in
    let start : c.len-start.result ≡ length bytes = c.len-start.ensures ∙ s.text.bytes.ok.0 in
    let end : c.saturating_add-end.result ≡ length (bytes ++ word) = omega (arith, c.saturating_add-end.ensures, start, length-append bytes word) in
    ap₂ words_in (c.push_reserved.ensures.items ∙ ap (λ es. es ++ e ∷ []) c.reserve.ensures.items) c.in_ok-push_str.ensures.bytes
    ∙ words_more entries bytes word e start end print.ensures.value print.ensures.bytes (IsUtf8-string_bytes s.text) longer c.self.invariant.parts
    ∙ ap (λ ws. ws ++ word ∷ []) c.self.view_is
