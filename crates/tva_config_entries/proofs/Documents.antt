-- The table of a text, where it has one.
use Rattle.tva_config_entries.proofs.Common.{◌≡◌, ℕ, List, Bool, true, false, cond, refl, ap, ◌∙◌, None, Some, IsUtf8, is_utf8, Members, document_of}
use Rattle.std.proofs.lemmas.Str.{is_utf8-from_IsUtf8, IsUtf8-from_is_utf8}
use Rattle.toml.specs.Parse.{parse_document}

-- a text that is parsed
pub document_parsed : (text : List ℕ) (ms : Members) → IsUtf8 text → parse_document text ≡ Some ms → document_of text ≡ Some ms
unfolding document_of
document_parsed text ms utf8 parsed = ap (λ b. cond b (parse_document text) None) (is_utf8-from_IsUtf8 text utf8) ∙ parsed

refused_at : (text : List ℕ) (b : Bool) → is_utf8 text ≡ b → (IsUtf8 text → parse_document text ≡ None) → cond b (parse_document text) None ≡ None
refused_at text true is refused = refused (IsUtf8-from_is_utf8 text is)
refused_at text false is refused = refl

-- a text that is refused
pub document_refused : (text : List ℕ) → (IsUtf8 text → parse_document text ≡ None) → document_of text ≡ None
unfolding document_of
document_refused text refused = refused_at text (is_utf8 text) refl refused
