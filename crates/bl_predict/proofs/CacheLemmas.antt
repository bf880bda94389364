-- What a set of lines is behind an access.
use Rattle.std.proofs.Common.{◌≡◌, ℕ, zero, suc, replicate, ◌-◌, Bool, true, false, cond, List, [], ◌∷◌, map, take, set, nat_eq, is_some, Option, Some, None, Result, Ok, Err, OnOk, OnErr, refl, sym, ap, subst, arith, eqb-true}
use Rattle.std.specs.Prelude.{◌||◌, if◌then◌else◌}
use Rattle.std.specs.List.{All}
use Rattle.std.specs.Map.{lookup, lookup_entry, remove_entry}
use Rattle.lru.specs.LruCache.{LruCache, promoted, put_entries}
use Rattle.bl_predict.specs.Lines.{has, without, accessed, lines_of, as_set, IsSet}

abbrev pub tagged : List ℕ → List (ℕ × Bool)
tagged lines = map (λ line. (line, true)) lines

pub lines_back : (lines : List ℕ) → map (λ (e : ℕ × Bool). e.0) (tagged lines) ≡ lines
lines_back [] = refl
lines_back (l ∷ ls) = ap (λ xs. l ∷ xs) (lines_back ls)

pub still_set : (most : ℕ) (lines : List ℕ) → IsSet most (as_set most lines)
still_set most lines = ap (as_set most) (sym (lines_back lines))

taken : (n : ℕ) (lines : List ℕ) → take n (tagged lines) ≡ tagged (take n lines)
taken zero lines = refl
taken (suc n) [] = refl
taken (suc n) (l ∷ ls) = ap (λ xs. (l, true) ∷ xs) (taken n ls)

nat_eq_sound : (a b : ℕ) → nat_eq a b ≡ true → a ≡ b
nat_eq_sound a b e = eqb-true a b e

module _ (line : ℕ) where
  hits : (b : Bool) (o : Option Bool) (h : Bool) → is_some o ≡ h → is_some (cond b (Some true) o) ≡ (b || h)
  hits true o h e = refl
  hits false o h e = e

  pub is_there : (lines : List ℕ) → is_some (lookup (nat_eq line) (tagged lines)) ≡ has line lines
  is_there [] = refl
  is_there (l ∷ ls) = hits (nat_eq line l) (lookup (nat_eq line) (tagged ls)) (has line ls) (is_there ls)

  removes : (b : Bool) (l : ℕ) (ls xs : List ℕ) (es : List (ℕ × Bool)) → es ≡ tagged xs → cond b (tagged ls) ((l, true) ∷ es) ≡ tagged (if b then ls else l ∷ xs)
  removes true l ls xs es e = refl
  removes false l ls xs es e = ap (λ ys. (l, true) ∷ ys) e

  removed : (lines : List ℕ) → remove_entry (nat_eq line) (tagged lines) ≡ tagged (without line lines)
  removed [] = refl
  removed (l ∷ ls) = removes (nat_eq line l) l ls (without line ls) (remove_entry (nat_eq line) (tagged ls)) (removed ls)

  finds : (b : Bool) (l : ℕ) (h : Bool) (o : Option (ℕ × Bool)) → (b ≡ true → l ≡ line) → (h ≡ true → o ≡ Some (line, true)) → (b || h) ≡ true
      → cond b (Some (l, true)) o ≡ Some (line, true)
  finds true l h o same k e = ap (λ x. Some (x, true)) (same refl)
  finds false l h o same k e = k e

  found : (lines : List ℕ) → has line lines ≡ true → lookup_entry (nat_eq line) (tagged lines) ≡ Some (line, true)
  found [] h = cc
  found (l ∷ ls) h = finds (nat_eq line l) l (has line ls) (lookup_entry (nat_eq line) (tagged ls)) (λ e. sym (nat_eq_sound line l e)) (found ls) h

  misses : (b : Bool) (x : ℕ × Bool) (h : Bool) (o : Option (ℕ × Bool)) → (h ≡ false → o ≡ None) → (b || h) ≡ false → cond b (Some x) o ≡ None
  misses true x h o k e = cc
  misses false x h o k e = k e

  missing : (lines : List ℕ) → has line lines ≡ false → lookup_entry (nat_eq line) (tagged lines) ≡ None
  missing [] h = refl
  missing (l ∷ ls) h = misses (nat_eq line l) (l, true) (has line ls) (lookup_entry (nat_eq line) (tagged ls)) (missing ls) h

  pub when_promoted : (most : ℕ) (lines : List ℕ) → has line lines ≡ true → promoted (nat_eq line) (tagged lines) ≡ tagged (accessed most line lines)
  when_promoted most lines h = rw (found lines h, removed lines, h) refl

  pub when_kept : (lines : List ℕ) → has line lines ≡ false → promoted (nat_eq line) (tagged lines) ≡ tagged lines
  when_kept lines h = rw (missing lines h) refl

  pub when_put : (most : ℕ) (lines : List ℕ) → has line lines ≡ false → put_entries nat_eq (as_set most lines) line true ≡ tagged (accessed most line lines)
  when_put most lines h = rw (missing lines h, h) (ap (λ xs. (line, true) ∷ xs) (taken (most - 1) lines))

pub on_err : {A E P : Type 0} (r : Result A E) → P → OnErr r P
on_err (Ok x) p = tt
on_err (Err e) p = p

-- a set stays one, whatever an access came to
pub still : {A E : Type 0} (r : Result A E) (most : ℕ) (lines : List ℕ) (old new : LruCache ℕ Bool) → OnOk r (new ≡ as_set most lines) → OnErr r (new ≡ old)
    → IsSet most old → IsSet most new
still (Ok x) most lines old new h k s = subst (IsSet most) (sym h) (still_set most lines)
still (Err e) most lines old new h k s = subst (IsSet most) (sym k) s

pub on_ok : {A E P Q : Type 0} (r : Result A E) → (P → Q) → OnOk r P → OnOk r Q
on_ok (Ok x) f p = f p
on_ok (Err e) f p = tt

pub all_set : {X : Type 0} (P : X → Type 0) (xs : List X) (i : ℕ) (y : X) → All P xs → P y → All P (set xs i y)
all_set P [] i y h p k d lt = h k d lt
all_set P (x ∷ xs) zero y h p zero d lt = p
all_set P (x ∷ xs) zero y h p (suc k) d lt = h (suc k) d lt
all_set P (x ∷ xs) (suc i) y h p zero d lt = h zero d (omega arith)
all_set P (x ∷ xs) (suc i) y h p (suc k) d lt = all_set P xs i y (λ j e l. h (suc j) e (omega arith)) p k d (omega arith)

pub empty_sets : (most n : ℕ) → map lines_of (replicate n (as_set most [])) ≡ replicate n []
empty_sets most zero = refl
empty_sets most (suc n) = ap (λ ls. [] ∷ ls) (empty_sets most n)
