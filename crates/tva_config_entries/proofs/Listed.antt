-- The names of a table's members are the keys of its map.
use Rattle.tva_config_entries.proofs.Common.{◌≡◌, ◌&&◌, ◌||◌, List, [], ◌∷◌, ℕ, refl, ap, map, String, string_bytes, Bor, list_all, list_any, bytes_eq, Value, members_view, table_view, is_listed, are_listed}
use Rattle.std.specs.declared.alloc.Global.{Global}
use Rattle.std.specs.BTreeMap.{BTreeMap, keys}

entries_listed : (listed : List (List ℕ)) (es : List (String Global × Value)) → list_all (λ name. is_listed listed (string_bytes name)) (map (λ e. e.0) es) ≡ are_listed listed (members_view es)
entries_listed listed [] = refl
entries_listed listed (e ∷ es) = ap (λ rest. is_listed listed (string_bytes e.0) && rest) (entries_listed listed es)

pub names_listed : (listed : List (List ℕ)) (t : BTreeMap (String Global) Value) → list_all (λ name. is_listed listed (string_bytes name)) (keys t) ≡ are_listed listed (table_view t)
names_listed listed t = entries_listed listed t.entries

-- looking through the keys behind references
pub any_of_keys : (name : List ℕ) (listed : List (Bor (List ℕ))) → is_listed (map (λ key. key.now) listed) name ≡ list_any (λ key. bytes_eq key.now name) listed
any_of_keys name [] = refl
any_of_keys name (key ∷ rest) = ap (λ b. bytes_eq key.now name || b) (any_of_keys name rest)
