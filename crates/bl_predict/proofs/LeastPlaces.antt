-- The least place that passes a test, found from a place on.
use Rattle.std.proofs.Common.{◌≡◌, ℕ, zero, suc, ◌+◌, ◌-◌, ◌<◌, ◌≤◌, Bool, true, false, cond, Option, Some, None, refl, sym, ap, ◌∙◌, arith}
use Rattle.std.specs.Prelude.{◌&&◌, is_some, not}
use Rattle.std.specs.List.{find, range_with_len}
use Rattle.std.specs.Option.{option_or}
use Rattle.bl_predict.specs.Drives.{execution_of, least}
use Rattle.bl_predict.specs.declared.choice.Readiness.TheVariants.{Disabled, Enabled, Reading}

one_more : (test : ℕ → Bool) (n k : ℕ) → n < k → find test (range_with_len n (k - n)) ≡ cond (test n) (Some n) (find test (range_with_len (n + 1) (k - (n + 1))))
one_more test n k lt =
    let is : k - n ≡ suc (k - (n + 1)) = omega arith in
    ap (λ m. find test (range_with_len n m)) is

pub is_here : (test : ℕ → Bool) (n k : ℕ) → n < k → test n ≡ true → find test (range_with_len n (k - n)) ≡ Some n
is_here test n k lt e = one_more test n k lt ∙ ap (λ b. cond b (Some n) (find test (range_with_len (n + 1) (k - (n + 1))))) e

pub is_behind : (test : ℕ → Bool) (n k : ℕ) → n < k → test n ≡ false → find test (range_with_len n (k - n)) ≡ find test (range_with_len (n + 1) (k - (n + 1)))
is_behind test n k lt e = one_more test n k lt ∙ ap (λ b. cond b (Some n) (find test (range_with_len (n + 1) (k - (n + 1))))) e

pub is_nowhere : (test : ℕ → Bool) (n k : ℕ) → k ≡ 0 → find test (range_with_len n k) ≡ None
is_nowhere test n k e = ap (λ m. find test (range_with_len n m)) e

-- ---- the least place that passes one test, else the least that passes another

module _ (reads : ℕ → Bool) (enabled : ℕ → Bool) (count : ℕ) where
  -- what is found of both tests from a place on
  abbrev pub rest : ℕ → Option ℕ → Option ℕ
  rest n first = option_or (find reads (range_with_len n (count - n))) (option_or first (find enabled (range_with_len n (count - n))))

  -- looking on from a place, with what was found before it, finds what looking from the start does
  pub record LooksOn (n : ℕ) (first : Option ℕ) : Type 0 where
    pub within : n ≤ count
    pub same : option_or (least reads count) (least enabled count) ≡ rest n first

  pub looks_begin : LooksOn 0 None
  unfolding least
  looks_begin =
      let all : count ≡ count - 0 = omega arith in
      record { within = omega arith; same = λ i. option_or (find reads (range_with_len 0 (all i))) (find enabled (range_with_len 0 (all i))) }

  reads_by : (a b : Bool) → execution_of a b ≡ Reading → a ≡ true
  reads_by true b e = refl
  reads_by false true e = cc
  reads_by false false e = cc

  pub looks_found : (n : ℕ) (first : Option ℕ) (wanted : Bool) → LooksOn n first → n < count → execution_of (reads n) (wanted && enabled n) ≡ Reading
      → Some n ≡ option_or (least reads count) (least enabled count)
  looks_found n first wanted h lt e =
      sym (h.same ∙ ap (λ o. option_or o (option_or first (find enabled (range_with_len n (count - n))))) (is_here reads n count lt (reads_by (reads n) (wanted && enabled n) e)))

  -- an execution that is wanted, doesn't read and is enabled
  record Silent (a wanted b : Bool) : Type 0 where
    pub unread : a ≡ false
    pub is_wanted : wanted ≡ true
    pub is : b ≡ true

  enabled_by : (a wanted b : Bool) → execution_of a (wanted && b) ≡ Enabled → Silent a wanted b
  enabled_by true wanted b e = cc
  enabled_by false true true e = record { unread = refl; is_wanted = refl; is = refl }
  enabled_by false true false e = cc
  enabled_by false false b e = cc

  -- one that doesn't read, and where it is wanted isn't enabled
  record Passed (a wanted b : Bool) : Type 0 where
    pub unread : a ≡ false
    pub is : wanted ≡ true → b ≡ false

  disabled_by : (a wanted b : Bool) → execution_of a (wanted && b) ≡ Disabled → Passed a wanted b
  disabled_by true wanted b e = cc
  disabled_by false true true e = cc
  disabled_by false true false e = record { unread = refl; is = λ w. refl }
  disabled_by false false b e = record { unread = refl; is = λ w. cc }

  -- it is wanted exactly where nothing was found before
  is_wanted : (wanted : Bool) → false ≡ not wanted → wanted ≡ true
  is_wanted true e = refl
  is_wanted false e = cc

  unwanted : (wanted : Bool) → true ≡ not wanted → wanted ≡ true → ⊥
  unwanted true e w = cc
  unwanted false e w = cc

  pub looks_enabled : (n : ℕ) (first : Option ℕ) (wanted : Bool) → is_some first ≡ not wanted → LooksOn n first → n < count
      → execution_of (reads n) (wanted && enabled n) ≡ Enabled → LooksOn (n + 1) (Some n)
  looks_enabled n None wanted w h lt e =
      let silent = enabled_by (reads n) wanted (enabled n) e in
      let read = is_behind reads n count lt silent.unread in
      let here = is_here enabled n count lt silent.is in
      record { within = omega (arith, lt); same = h.same ∙ (λ i. option_or (read i) (here i)) }
  looks_enabled n (Some m) wanted w h lt e =
      let silent = enabled_by (reads n) wanted (enabled n) e in
      absurd (unwanted wanted w silent.is_wanted)

  pub looks_disabled : (n : ℕ) (first : Option ℕ) (wanted : Bool) → is_some first ≡ not wanted → LooksOn n first → n < count
      → execution_of (reads n) (wanted && enabled n) ≡ Disabled → LooksOn (n + 1) first
  looks_disabled n None wanted w h lt e =
      let passed = disabled_by (reads n) wanted (enabled n) e in
      let read = is_behind reads n count lt passed.unread in
      let other = is_behind enabled n count lt (passed.is (is_wanted wanted w)) in
      record { within = omega (arith, lt); same = h.same ∙ (λ i. option_or (read i) (other i)) }
  looks_disabled n (Some m) wanted w h lt e =
      let passed = disabled_by (reads n) wanted (enabled n) e in
      let read = is_behind reads n count lt passed.unread in
      record { within = omega (arith, lt); same = h.same ∙ ap (λ o. option_or o (Some m)) read }

  nothing_more : (first : Option ℕ) → first ≡ option_or first None
  nothing_more None = refl
  nothing_more (Some n) = refl

  nothing_from : (test : ℕ → Bool) (n k : ℕ) → ((m : ℕ) → n ≤ m → test m ≡ false) → find test (range_with_len n k) ≡ None
  nothing_from test n zero h = refl
  nothing_from test n (suc k) h =
      ap (λ b. cond b (Some n) (find test (range_with_len (n + 1) k))) (h n (omega arith)) ∙ nothing_from test (n + 1) k (λ m le. h m (omega (arith, le)))

  pub looks_end : (n : ℕ) (first : Option ℕ) → LooksOn n first → count ≤ n → first ≡ option_or (least reads count) (least enabled count)
  looks_end n first h le =
      let none : count - n ≡ 0 = omega (arith, le) in
      nothing_more first ∙ sym (h.same
      ∙ (λ i. option_or (is_nowhere reads n (count - n) none i) (option_or first (is_nowhere enabled n (count - n) none i))))

  pub looks_past : (n : ℕ) (first : Option ℕ) → LooksOn n first → ((m : ℕ) → n ≤ m → reads m ≡ false) → ((m : ℕ) → n ≤ m → enabled m ≡ false)
      → first ≡ option_or (least reads count) (least enabled count)
  looks_past n first h unread disabled =
      nothing_more first ∙ sym (h.same
      ∙ (λ i. option_or (nothing_from reads n (count - n) unread i) (option_or first (nothing_from enabled n (count - n) disabled i))))
