-- Modules in files can be loaded, and compiled where their names are texts.
use Rattle.std.proofs.Common.{◌≡◌, ℕ, zero, suc, ◌-◌, ◌^◌, ◌<◌, ◌≤◌, Bool, true, false, cond, List, [], ◌∷◌, length, length-drop, length-take, take, drop, nat_eq, Some, codes, refl, ap, sym, ◌∙◌, arith, slice_get}
use Rattle.std.specs.List.{All, after_last}
use Rattle.std.specs.Str.{bytes_eq}
use Rattle.std.proofs.lemmas.List.Elements.{All-cons, All-head, All-nil, All-tail}
use Rattle.std.proofs.lemmas.Option.{none-some, same_Some}
use Rattle.bl_base.specs.Fits.{AreBytes}
use Rattle.bl_base.specs.Quantity.{limit_of}
use Rattle.bl_base.specs.declared.quantity.Quantity.TheVariants as quantity
use Rattle.bl_text.proofs.ModuleNames.{no_solidus}
use Rattle.bl_text.specs.Names.{AreNamedApart, module_name}
use Rattle.bl_build.specs.BuildStages.{AreCompilable}
use Rattle.bl_build.specs.LoadStages.{AreLoadable, AreShort, IsLoadable, Part, parts_of}

-- ---- modules in files can be loaded

abbrev pub Bytes : List ℕ → Type 0
Bytes bytes = AreBytes bytes

abbrev pub HasBytes : Part → Type 0
HasBytes part = AreBytes part.bytes

each_named : (words contents : List (List ℕ)) → AreShort words contents → All IsLoadable (parts_of words contents)
each_named [] [] read = All-nil IsLoadable
each_named [] (bytes ∷ contents) read = absurd read
each_named (word ∷ words) [] read = absurd read
each_named (word ∷ words) (bytes ∷ contents) read =
    All-cons IsLoadable (record { name = module_name word; bytes = bytes }) (parts_of words contents) (no_solidus word, read.0)
    (each_named words contents read.1)

each_bytes : (words contents : List (List ℕ)) → All Bytes contents → All HasBytes (parts_of words contents)
each_bytes [] contents bytes = All-nil HasBytes
each_bytes (word ∷ words) [] bytes = All-nil HasBytes
each_bytes (word ∷ words) (one ∷ contents) bytes =
    All-cons HasBytes (record { name = module_name word; bytes = one }) (parts_of words contents) (All-head Bytes one contents bytes) (each_bytes words contents (All-tail Bytes one contents bytes))

no_more : (words contents : List (List ℕ)) → length (parts_of words contents) ≤ length words
no_more [] contents = omega arith
no_more (word ∷ words) [] = omega arith
no_more (word ∷ words) (one ∷ contents) = let rest = no_more words contents in omega arith

named_at : (words contents : List (List ℕ)) (i : ℕ) (a : Part) → slice_get (parts_of words contents) i ≡ Some a → (word : List ℕ) × (slice_get words i ≡ Some word) × (module_name word ≡ a.name)
named_at [] contents i a e = absurd (none-some a e)
named_at (word ∷ words) [] i a e = absurd (none-some a e)
named_at (word ∷ words) (one ∷ contents) zero a e = (word, refl, ap (λ (p : Part). p.name) (same_Some (record { name = module_name word; bytes = one }) a e))
named_at (word ∷ words) (one ∷ contents) (suc i) a e = named_at words contents i a e

pub are_loadable : (words contents : List (List ℕ)) → length words ≤ limit_of quantity.Modules → AreNamedApart words → AreShort words contents → All AreBytes contents
    → AreLoadable (parts_of words contents)
are_loadable words contents few apart read bytes = record {
  few = omega (arith, few, no_more words contents);
  each = each_named words contents read;
  distinct = λ i j a b e f same.
      let first = named_at words contents i a e in
      let second = named_at words contents j b f in
      apart.apart i j first.0 second.0 first.1 second.1 (first.2 ∙ (same ∙ sym second.2));
  bytes = each_bytes words contents bytes;
}

-- ---- and compiled, where their words are texts

dropped : (n : ℕ) (xs : List ℕ) → length (drop n xs) ≤ length xs
dropped n xs = omega (arith, length-drop n xs)

name_short : (word : List ℕ) → length (module_name word) ≤ length word
name_short word = of_test (after_last (nat_eq 47) word) (dropped _ word) (bytes_eq (drop (length (after_last (nat_eq 47) word) - 5) (after_last (nat_eq 47) word)) (codes ".wasm"))
  where
    of_test : (name : List ℕ) → length name ≤ length word → (ends : Bool) → length (cond ends (take (length name - 5) name) name) ≤ length word
    of_test name short true = omega (arith, short, length-take (length name - 5) name)
    of_test name short false = short

abbrev pub IsShort : Part → Type 0
IsShort part = length part.name < 2 ^ 63

abbrev IsText : List ℕ → Type 0
IsText word = length word < 2 ^ 63

names_short : (words contents : List (List ℕ)) → All IsText words → All IsShort (parts_of words contents)
names_short [] contents texts = All-nil IsShort
names_short (word ∷ words) [] texts = All-nil IsShort
names_short (word ∷ words) (one ∷ contents) texts =
    All-cons IsShort (record { name = module_name word; bytes = one }) (parts_of words contents) (omega (arith, name_short word, All-head IsText word words texts)) (names_short words contents (All-tail IsText word words texts))

pub are_compilable : (words contents : List (List ℕ)) → length words ≤ limit_of quantity.Modules → AreNamedApart words → All (λ word. length word < 2 ^ 63) words → AreShort words contents → All AreBytes contents
    → AreCompilable (parts_of words contents)
are_compilable words contents few apart texts short bytes = record { loadable = are_loadable words contents few apart short bytes; names = names_short words contents texts }
