-- An object's members as one after another is put among them.
use Rattle.std.proofs.Common.{◌≡◌, ◌∙◌, ◌<◌, ◌+◌, ap, sym, refl, ℕ, suc, Bool, true, false, List, [], ◌∷◌, Option, Some, None, Ordering, Less, Equal, Greater, nat_cmp, is_eq, bytes_eq, arith, is_some, cond}
use Rattle.std.specs.Prelude.{if◌then◌else◌, ⊤}
use Rattle.std.specs.Cmp.Lexicographic.{slice_cmp}
use Rattle.std.specs.Ordering.{match_ordering}
use Rattle.std.proofs.lemmas.Cmp.{nat_list_cmp_total, tied_itself}
use Rattle.std.proofs.lemmas.Map.Text.{is_eq-slice_cmp}
use Rattle.std.proofs.lemmas.Slice.Eq.{bytes_eq-Decides}
use Rattle.serde_json.specs.Data.{Data, Members, member, no_members, put}
use Rattle.serde_json.specs.Events.{members_len}
use Rattle.serde_json.specs.Find.{get_member}
use Rattle.bl_witness.specs.Fields.{AreBehind, Rise, has_others, is_one_of}

-- ---- other keys

twice : (b : Bool) (x : Bool) → (if b then x else true) ≡ (if b then (if b then x else true) else true)
twice true x = refl
twice false x = refl

swapped : (a b : Bool) (x : Bool) → (if a then (if b then x else true) else true) ≡ (if b then (if a then x else true) else true)
swapped true b x = refl
swapped false true x = refl
swapped false false x = refl

same_key : (k l : List ℕ) → slice_cmp nat_cmp k l ≡ Equal → k ≡ l
same_key k l is = (bytes_eq-Decides k l).0 (sym (is_eq-slice_cmp k l) ∙ ap is_eq is)

module _ (known : List (List ℕ)) where
  abbrev With : List ℕ → Members → Bool
  With k ms = if is_one_of known k then has_others known ms else true

  others_placed : (o : Ordering) (k l : List ℕ) (d e : Data) (ms : Members) → slice_cmp nat_cmp k l ≡ o → has_others known (put k d ms) ≡ With k ms
      → has_others known (match_ordering o (member k d (member l e ms)) (member l d ms) (member l e (put k d ms))) ≡ With k (member l e ms)
  others_placed Less k l d e ms is later = refl
  others_placed Equal k l d e ms is later = rw (same_key k l is) (twice (is_one_of known l) (has_others known ms))
  others_placed Greater k l d e ms is later = ap (λ b. if is_one_of known l then b else true) later ∙ swapped (is_one_of known l) (is_one_of known k) (has_others known ms)

  pub others_put : (k : List ℕ) (d : Data) (ms : Members) → has_others known (put k d ms) ≡ (if is_one_of known k then has_others known ms else true)
  others_put k d no_members = refl
  others_put k d (member l e ms) = others_placed _ k l d e ms refl (others_put k d ms)

-- ---- keys rise

behind_more : (k l : List ℕ) (ms : Members) → slice_cmp nat_cmp k l ≡ Less → AreBehind l ms → AreBehind k ms
behind_more k l no_members less h = tt
behind_more k l (member m d ms) less h = (nat_list_cmp_total.trans k l m less h.0, behind_more k l ms less h.1)

behind_placed : (o : Ordering) (j k l : List ℕ) (d e : Data) (ms : Members) → slice_cmp nat_cmp j k ≡ Less → AreBehind j (member l e ms) → AreBehind j (put k d ms)
    → AreBehind j (match_ordering o (member k d (member l e ms)) (member l d ms) (member l e (put k d ms)))
behind_placed Less j k l d e ms less h later = (less, h)
behind_placed Equal j k l d e ms less h later = h
behind_placed Greater j k l d e ms less h later = (h.0, later)

behind_put : (j k : List ℕ) (d : Data) (ms : Members) → slice_cmp nat_cmp j k ≡ Less → AreBehind j ms → AreBehind j (put k d ms)
behind_put j k d no_members less h = (less, tt)
behind_put j k d (member l e ms) less h = behind_placed (slice_cmp nat_cmp k l) j k l d e ms less h (behind_put j k d ms less h.1)

turned : (k l : List ℕ) → slice_cmp nat_cmp k l ≡ Greater → slice_cmp nat_cmp l k ≡ Less
turned k l is = nat_list_cmp_total.antisymm l k ∙ rw is refl

rise_placed : (o : Ordering) (k l : List ℕ) (d e : Data) (ms : Members) → slice_cmp nat_cmp k l ≡ o → Rise (member l e ms) → Rise (put k d ms)
    → Rise (match_ordering o (member k d (member l e ms)) (member l d ms) (member l e (put k d ms)))
rise_placed Less k l d e ms is h later = ((is, behind_more k l ms is h.0), h)
rise_placed Equal k l d e ms is h later = h
rise_placed Greater k l d e ms is h later = (behind_put l k d ms (turned k l is) h.0, later)

pub rise_put : (k : List ℕ) (d : Data) (ms : Members) → Rise ms → Rise (put k d ms)
rise_put k d no_members h = (tt, tt)
rise_put k d (member l e ms) h = rise_placed _ k l d e ms refl h (rise_put k d ms h.1)

-- ---- how many members there are

abbrev present : List ℕ → Members → ℕ
present k ms = cond (is_some (get_member k ms)) 1 0

abbrev all_present : List (List ℕ) → Members → ℕ
all_present [] ms = 0
all_present (k ∷ ks) ms = present k ms + all_present ks ms

-- no key is listed twice
abbrev Distinct : List (List ℕ) → Type 0
Distinct [] = ⊤
Distinct (k ∷ ks) = (is_one_of ks k ≡ false) × Distinct ks

missing_at : (o : Ordering) (e : Data) (rest : Option Data) → o ≡ Less → rest ≡ None → match_ordering o rest (Some e) rest ≡ None
missing_at Less e rest is none = none
missing_at Equal e rest is none = absurd (cc)
missing_at Greater e rest is none = absurd (cc)

missing : (k : List ℕ) (ms : Members) → AreBehind k ms → get_member k ms ≡ None
missing k no_members h = refl
missing k (member l e ms) h = missing_at (slice_cmp nat_cmp k l) e (get_member k ms) h.0 (missing k ms h.1)

other_at : (o : Ordering) (e : Data) (rest : Option Data) → is_eq o ≡ false → match_ordering o rest (Some e) rest ≡ rest
other_at Less e rest is = refl
other_at Equal e rest is = absurd (cc)
other_at Greater e rest is = refl

same_text : (xs : List ℕ) → slice_cmp nat_cmp xs xs ≡ Equal
same_text xs = tied_itself nat_list_cmp_total xs

swap_eq : (k l : List ℕ) → bytes_eq k l ≡ false → bytes_eq l k ≡ false
swap_eq k l other = by (bytes_eq l k) refl
  where
    by : (b : Bool) → bytes_eq l k ≡ b → b ≡ false
    by true is =
        let same : l ≡ k = (bytes_eq-Decides l k).0 is in
        let twin : bytes_eq k l ≡ true = (bytes_eq-Decides k l).1 (sym same) in
        absurd (cc)
    by false is = refl

module _ (k : List ℕ) (d : Data) (ms : Members) (behind : AreBehind k ms) where
  present_here : present k (member k d ms) ≡ 1
  present_here = rw (same_text k) refl

  present_missing : present k ms ≡ 0
  present_missing = rw (missing k ms behind) refl

  present_other : (l : List ℕ) → bytes_eq k l ≡ false → present l (member k d ms) ≡ present l ms
  present_other l other = ap (λ o. cond (is_some o) 1 0) (other_at (slice_cmp nat_cmp l k) d (get_member l ms) (is_eq-slice_cmp l k ∙ swap_eq k l other))

  one_more_at : (l : List ℕ) (ls : List (List ℕ)) (b : Bool) → bytes_eq k l ≡ b → is_one_of ls l ≡ false
      → all_present ls (member k d ms) ≡ all_present ls ms + cond (is_one_of ls k) 1 0
      → all_present (l ∷ ls) (member k d ms) ≡ all_present (l ∷ ls) ms + cond (is_one_of (l ∷ ls) k) 1 0
  one_more_at l ls true is once later =
      let same : k ≡ l = (bytes_eq-Decides k l).0 is in
      let here : present l (member k d ms) ≡ 1 = ap (λ m. present m (member k d ms)) (sym same) ∙ present_here in
      let none : present l ms ≡ 0 = ap (λ m. present m ms) (sym same) ∙ present_missing in
      let apart : is_one_of ls k ≡ false = ap (is_one_of ls) same ∙ once in
      let counted : all_present ls (member k d ms) ≡ all_present ls ms + 0 = later ∙ ap (λ b. all_present ls ms + cond b 1 0) apart in
      let one : ◌≡◌ {A = ℕ} (cond (is_one_of (l ∷ ls) k) 1 0) 1 = rw is refl in
      omega arith
  one_more_at l ls false is once later =
      let here : present l (member k d ms) ≡ present l ms = present_other l is in
      let one : ◌≡◌ {A = ℕ} (cond (is_one_of (l ∷ ls) k) 1 0) (cond (is_one_of ls k) 1 0) = rw is refl in
      omega arith

  one_more : (ls : List (List ℕ)) → Distinct ls → all_present ls (member k d ms) ≡ all_present ls ms + cond (is_one_of ls k) 1 0
  one_more [] h = omega arith
  one_more (l ∷ ls) h = one_more_at l ls (bytes_eq k l) refl h.0 (one_more ls h.1)

-- with other keys there are more members than of these, and else as many
abbrev pub Counted : Bool → ℕ → ℕ → Type 0
Counted true len known = known < len
Counted false len known = len ≡ known

counted_at : (b others : Bool) (len known more : ℕ) → Counted others len known → more ≡ known + cond b 1 0 → Counted (if b then others else true) (suc len) more
counted_at true true len known more h e = omega (arith, h)
counted_at true false len known more h e = omega (arith, h)
counted_at false true len known more h e = omega (arith, h)
counted_at false false len known more h e = omega (arith, h)

pub counted : (known : List (List ℕ)) → Distinct known → (ms : Members) → Rise ms → Counted (has_others known ms) (members_len ms) (all_present known ms)
counted known distinct no_members h = none known
  where
    none : (ks : List (List ℕ)) → 0 ≡ all_present ks no_members
    none [] = refl
    none (k ∷ ks) = omega (arith, none ks)
counted known distinct (member k d ms) h =
    counted_at (is_one_of known k) (has_others known ms) (members_len ms) (all_present known ms) (all_present known (member k d ms)) (counted known distinct ms h.1) (one_more k d ms h.0 known distinct)
