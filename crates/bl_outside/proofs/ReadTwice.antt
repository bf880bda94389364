-- Reads one after another, where the bytes that a file has left are known.
use Rattle.std.proofs.Common.{◌≡◌, ◌≤◌, ◌<◌, ◌⊎◌, inl, inr, ℕ, ◌+◌, ◌-◌, arith, take, drop, List, [], ◌++◌, Some, None, Option, length, ap, refl, sym, ◌∙◌}
use Rattle.std.proofs.lemmas.List.{append-nil, append_assoc, drop_all, drop_at, length-append, length-take-le, take_all, take_at}
use Rattle.std.proofs.Math.Nat.{eq-or-lt_of_le}
use Rattle.std.specs.Io.KnownBytes.{Consumes, IsAtEnd}
use Rattle.bl_outside.specs.Reading.{GivesFrom, IsShorter, Passes, ReadsOn}

-- what two reads gave
pub read-twice : (old mid new : Option (List ℕ)) (first second : List ℕ) → Consumes old mid first → Consumes mid new second → Consumes old new (first ++ second)
read-twice None mid new first second a b = tt
read-twice (Some xs) None new first second a b = absurd a
read-twice (Some xs) (Some ys) None first second a b = absurd b
read-twice (Some xs) (Some ys) (Some zs) first second a b = a ∙ ap (λ ys. first ++ ys) b ∙ sym (append_assoc first second zs)

-- what was passed, and a read more
pub passed-more : (old mid new : Option (List ℕ)) (count left n : ℕ) (piece : List ℕ) → left ≤ count → n ≤ left → n ≤ length piece → Passes old mid (count - left)
    → Consumes mid new (take n piece) → Passes old new (count - (left - n))
passed-more old mid new count left n piece of-count of-left of-piece passed next =
    record {
      bytes = passed.bytes ++ take n piece;
      next = read-twice old mid new passed.bytes (take n piece) passed.next next;
      many = omega (arith, length-append passed.bytes (take n piece), length-take-le n piece of-piece, passed.many, of-count, of-left);
    }

-- no byte was passed
pub none-passed : (old : Option (List ℕ)) → Passes old old 0
none-passed None = record { bytes = []; next = tt; many = refl }
none-passed (Some all) = record { bytes = []; next = refl; many = refl }

-- what was passed, and what was read behind it
pub passed-read : (old mid new : Option (List ℕ)) (place : ℕ) (bytes : List ℕ) → Passes old mid place → Consumes mid new bytes → Passes old new (place + length bytes)
passed-read old mid new place bytes passed next = record {
  bytes = passed.bytes ++ bytes;
  next = read-twice old mid new passed.bytes bytes passed.next next;
  many = omega (arith, length-append passed.bytes bytes, passed.many);
}

-- the bytes that were read behind a place are those of the file from there on
pub reads-from : (begun old new : Option (List ℕ)) (from most : ℕ) (bytes : List ℕ) → Passes begun old from → ReadsOn old new most bytes → length bytes ≤ most → GivesFrom begun from most bytes
reads-from None old new from most bytes passed read bound = tt
reads-from (Some all) None new from most bytes passed read bound = absurd passed.next
reads-from (Some all) (Some left) None from most bytes passed read bound = absurd read.next
reads-from (Some all) (Some left) (Some rest) from most bytes passed read bound =
    ap (take most) (ap (drop from) passed.next ∙ drop_at passed.bytes left from passed.many ∙ read.next) ∙ front
  where
    by : (length bytes ≡ most) ⊎ (length bytes < most) → take most (bytes ++ rest) ≡ bytes
    by (inl same) = take_at bytes rest most same
    by (inr less) = ap (λ l. take most (bytes ++ l)) (read.whole less) ∙ ap (take most) (append-nil bytes) ∙ take_all most bytes bound

    front : take most (bytes ++ rest) ≡ bytes
    front = by (eq-or-lt_of_le bound)

-- a file that ends before a place gives nothing from there on
pub gives-nothing : (begun : Option (List ℕ)) (from most : ℕ) → IsShorter begun from → GivesFrom begun from most []
gives-nothing None from most shorter = tt
gives-nothing (Some all) from most shorter = ap (take most) (drop_all from all (omega (arith, shorter))) ∙ take_all most [] (omega arith)

-- where all bytes that were left are fewer, the file is shorter
pub passed-all : (begun new : Option (List ℕ)) (passed from : ℕ) → IsAtEnd new → Passes begun new passed → passed < from → IsShorter begun from
passed-all None new passed from end is less = tt
passed-all (Some all) None passed from end is less = absurd is.next
passed-all (Some all) (Some left) passed from end is less =
    let whole : all ≡ is.bytes = is.next ∙ ap (λ l. is.bytes ++ l) end ∙ append-nil is.bytes in
    omega (arith, ap length whole, is.many, less)
