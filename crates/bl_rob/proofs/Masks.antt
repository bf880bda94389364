-- The guards of the entries from a place on, as a number.
use Rattle.std.proofs.Common.{◌≡◌, ℕ, suc, ◌+◌, ◌-◌, ◌*◌, ◌^◌, ◌<◌, ◌≤◌, Bool, true, false, List, ◌∷◌, length, drop, get_or, refl, sym, ap, ◌∙◌, arith}
use Rattle.std.specs.Int.{from_bool}
use Rattle.std.specs.Prelude.{if◌then◌else◌}
use Rattle.std.proofs.Math.Nat.{pow-succ'}
use Rattle.std.proofs.Math.Seq.{drop-cons}
use Rattle.bl_rob.specs.Machines.{guards, is_guard}
use Rattle.bl_rob.specs.declared.entry.Entry.{Entry}

pub record IsMask (entries : List Entry) (left mask : ℕ) : Type 0 where
  pub value : mask ≡ guards (drop left entries)
  pub small : mask < 2 ^ (length entries - left)
  pub within : left ≤ length entries

bit : (b : Bool) → (if b then 1 else 0) ≤ 1
bit true = omega arith
bit false = omega arith

pub byte_is : (b : Bool) → from_bool b ≡ (if b then 1 else 0)
byte_is true = refl
byte_is false = refl

pub one_more : (entries : List Entry) (left mask new : ℕ) (entry : Entry) (guard : Bool) → IsMask entries left mask → 0 < left → entry ≡ get_or entries (left - 1) entry
    → guard ≡ is_guard (get_or entries (left - 1) entry).work → new ≡ 2 * mask + (if guard then 1 else 0) → IsMask entries (left - 1) new
one_more entries left mask new entry guard m some is which e =
    let within = m.within in
    let lt : left - 1 < length entries = omega arith in
    let next : suc (left - 1) ≡ left = omega arith in
    let split : drop (left - 1) entries ≡ entry ∷ drop left entries =
    drop-cons entries (left - 1) entry lt ∙ ap (λ k. get_or entries (left - 1) entry ∷ drop k entries) next ∙ ap (λ x. x ∷ drop left entries) (sym is) in
    let count : length entries - (left - 1) ≡ suc (length entries - left) = omega arith in
    let same : 2 ^ (length entries - (left - 1)) ≡ 2 * 2 ^ (length entries - left) = ap (λ k. 2 ^ k) count ∙ double (length entries - left) in
    let small = m.small in
    let b = bit guard in
    record {
      value = e ∙ ap (λ k. 2 * k + (if guard then 1 else 0)) m.value ∙ rolled_back _ _
          ∙ ap (λ g. (if g then 1 else 0) + 2 * guards (drop left entries)) which
          ∙ ap (λ (x : Entry). (if is_guard x.work then 1 else 0) + 2 * guards (drop left entries)) (sym is) ∙ ap guards (sym split);
      small = omega arith;
      within = omega arith;
    }
  where
    double : (k : ℕ) → 2 ^ suc k ≡ 2 * 2 ^ k
    double k = pow-succ' 2 k

    rolled_back : (a b : ℕ) → 2 * a + b ≡ b + 2 * a
    rolled_back a b = omega arith
