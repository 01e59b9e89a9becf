-- A document that was read by its entry is what any bytes say.
use Rattle.std.proofs.Common.{◌≡◌, ◌∙◌, List, ℕ, Result, Ok, Err, ap₂, length, string_bytes}
use Rattle.std.specs.Prelude.{IfOk}
use Rattle.std.proofs.lemmas.Str.{IsUtf8-string_bytes}
use Rattle.pk_model.specs.declared.documents.Document.{Document}
use Rattle.pk_model.specs.Views.{doc_of}
use Rattle.pk_posting.specs.declared.fault.ReadFault.{ReadFault}
use Rattle.pk_segment.specs.declared.directory.Entry.{Entry}
use Rattle.pk_segment.specs.declared.segment.Segment.{Segment}
use Rattle.pk_segment.specs.Documents.{DocumentSaid}
use Rattle.pk_segment.specs.Fields.{IsEntry, text_from}
use Rattle.pk_segment.specs.Opened.{count_of}

pub document_said : (bytes : List ℕ) (s : Segment) (field : List ℕ) (e : Entry) (r : Result Document ReadFault) → IsEntry field e → IfOk r (λ d. string_bytes d.text ≡ text_from bytes (count_of s) e.at e.len)
    → IfOk r (λ d. length (string_bytes d.text) ≡ e.len) → IfOk r (λ d. d.number.0 ≡ e.number) → IfOk r (λ d. DocumentSaid bytes s field (doc_of d))
document_said bytes s field e (Ok d) is text long number = record {
  number_is = number ∙ is.number_is;
  text_is = text ∙ ap₂ (text_from bytes (count_of s)) is.at_is is.len_is;
  long = long ∙ is.len_is;
  utf8 = IsUtf8-string_bytes d.text;
}
document_said bytes s field e (Err fault) is text long number = tt
