-- The name of a module has no solidus.
use Rattle.std.proofs.Common.{◌≡◌, ℕ, ◌+◌, ◌-◌, ◌<◌, Bool, true, false, cond, not, nat_eq, List, length, length-drop, take, drop, get_or, ap, sym, ◌∙◌, subst, arith}
use Rattle.std.specs.List.{All, after_last, suffix_len}
use Rattle.std.specs.Prelude.{codes, reverse}
use Rattle.std.specs.Str.{bytes_eq}
use Rattle.std.proofs.lemmas.Bool.{false≢true}
use Rattle.std.proofs.lemmas.List.{get_or-drop, get_or-reverse}
use Rattle.std.proofs.lemmas.List.Elements.{All-from_get_or, All-take}
use Rattle.std.proofs.lemmas.List.Sums.{prefix_len_passes, suffix_len-le-length}
use Rattle.bl_text.specs.Names.{module_name, without_ending}

abbrev Other : ℕ → Type 0
Other byte = byte ≡ 0x2F → ⊥

other_of : (byte : ℕ) → not (nat_eq 47 byte) ≡ true → Other byte
other_of byte passes same = let clash : not (nat_eq 47 47) ≡ true = subst (λ b. not (nat_eq 47 b) ≡ true) same passes in false≢true clash

-- behind the last one there is none
module _ (path : List ℕ) where
  abbrev many : ℕ
  many = suffix_len (λ x. not (nat_eq 47 x)) path

  one_behind : (i : ℕ) → i < length (drop (length path - many) path) → Other (get_or (drop (length path - many) path) i 0)
  one_behind i within =
      let most = suffix_len-le-length (λ x. not (nat_eq 47 x)) path in
      let below : many - 1 - i < many = omega (arith, within, most, length-drop (length path - many) path) in
      let passes = prefix_len_passes (λ x. not (nat_eq 47 x)) (reverse path) (many - 1 - i) 0 below in
      let turned = get_or-reverse path (many - 1 - i) 0 (omega (arith, below, most)) in
      let place : length path - 1 - (many - 1 - i) ≡ length path - many + i = omega (arith, within, most, length-drop (length path - many) path) in
      let there = get_or-drop (length path - many) path i 0 in
      let same : get_or (reverse path) (many - 1 - i) 0 ≡ get_or (drop (length path - many) path) i 0 = turned ∙ (ap (λ n. get_or path n 0) place ∙ sym there) in
      other_of (get_or (drop (length path - many) path) i 0) (subst (λ x. not (nat_eq 47 x) ≡ true) same passes)

  behind_last : All Other (after_last (nat_eq 47) path)
  behind_last = All-from_get_or Other (drop (length path - many) path) 0 one_behind

-- a prefix of it has none either
front_none : (name : List ℕ) → All Other name → All Other (without_ending name)
front_none name all = of_test (bytes_eq (drop (length name - 5) name) (codes ".wasm"))
  where
    of_test : (ends : Bool) → All Other (cond ends (take (length name - 5) name) name)
    of_test true = All-take Other (length name - 5) name all
    of_test false = all

pub no_solidus : (word : List ℕ) → All Other (module_name word)
no_solidus word = front_none (after_last (nat_eq 47) word) (behind_last word)
