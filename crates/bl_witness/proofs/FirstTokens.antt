-- What a value is, by its first token.
use Rattle.std.proofs.Common.{◌≡◌, ◌∙◌, ap, sym, refl, ℕ, zero, suc, List, ◌∷◌, Option, Some, None, arith, nat_lt, lt-ltb, ◌<◌}
use Rattle.std.specs.Prelude.{option_and_then, option_map, if◌then◌else◌}
use Rattle.json.specs.Json.{value}
use Rattle.json.specs.Reads.{token_of}
use Rattle.json.specs.Token as spec
use Rattle.json.specs.declared.token.Token.{Token}
use Rattle.json.specs.declared.token.Token.TheVariants.{BeginObject, EndObject, BeginArray, EndArray, Key, String, Number, Bool, Null, Bad}
use Rattle.json.proofs.Grammar.{value_is}
use Rattle.serde_json.specs.Data.{Data, Items, Members, Num, array, boolean, float, negative, null, number, object, string, unsigned}
use Rattle.serde_json.specs.Find.{as_array, as_number, as_object, as_u64}
use Rattle.serde_json.specs.Read.{converted, number_of, of_json}
use Rattle.bl_witness.specs.Fields.{whole_in}
use Rattle.bl_witness.specs.Shapes.{whole_below}
use Rattle.bl_witness.specs.Taken.{TakesValue}
use Rattle.bl_witness.proofs.Arrays.{parsed}
use Rattle.bl_witness.proofs.Turns.{array_is, object_is, takes_boolean, takes_null, takes_number, takes_string}

-- what isn't the token's is not the value's; no array and no object begins at depth 0
record Tells (depth : ℕ) (t : Token) (d : Data) : Type 0 where
  pub array : (0 < depth → t ≡ BeginArray → ⊥) → None ≡ as_array d
  pub object : (0 < depth → t ≡ BeginObject → ⊥) → None ≡ as_object d
  pub whole : whole_in t ≡ None → None ≡ option_and_then as_u64 (as_number d)

abbrev pick : {A : Type 0} → A → Option A → A
pick d None = d
pick d (Some a) = a

module _ (depth : ℕ) (ts new : List spec.Token) where
  -- the value of a leaf is that one
  same : (d e : Data) → ◌≡◌ {A = Option (Data × List spec.Token)} (Some (d, ts)) (Some (e, new)) → d ≡ e
  same d e h = ap (λ (o : Option (Data × List spec.Token)). (pick (e, new) o).0) h

  never : {G : Type 0} (t : spec.Token) (d : Data) → value depth (t ∷ ts) ≡ None → TakesValue depth (t ∷ ts) d new → G
  never t d none h =
      let e : ◌≡◌ {A = Option (Data × List spec.Token)} None (Some (d, new)) = sym (ap (converted of_json) none) ∙ h in
      absurd (cc)

  opened_object : (k : ℕ) (d : Data) → TakesValue k (spec.begin_object ∷ ts) d new → (0 < k) × ((ms : Members) × (d ≡ object ms))
  unfolding value
  opened_object zero d h = absurd (cc)
  opened_object (suc k) d h = let all = parsed object _ d new (sym (object_is (suc k) ts (omega arith)) ∙ h) in (omega arith, (all.0, all.2))

  opened_array : (k : ℕ) (d : Data) → TakesValue k (spec.begin_array ∷ ts) d new → (0 < k) × ((ds : Items) × (d ≡ array ds))
  unfolding value
  opened_array zero d h = absurd (cc)
  opened_array (suc k) d h = let all = parsed array _ d new (sym (array_is (suc k) ts (omega arith)) ∙ h) in (omega arith, (all.0, all.2))

  tells : (t : Token) (d : Data) → TakesValue depth (token_of t ∷ ts) d new → Tells depth t d
  tells BeginObject d h =
      let opened = opened_object depth d h in
      let is = sym opened.1.1 in
      record { array = λ _. ap as_array is; object = λ other. absurd (other opened.0 refl); whole = λ _. ap (λ e. option_and_then as_u64 (as_number e)) is }
  tells BeginArray d h =
      let opened = opened_array depth d h in
      let is = sym opened.1.1 in
      record { array = λ other. absurd (other opened.0 refl); object = λ _. ap as_object is; whole = λ _. ap (λ e. option_and_then as_u64 (as_number e)) is }
  tells EndObject d h = never spec.end_object d (value_is depth (spec.end_object ∷ ts)) h
  tells EndArray d h = never spec.end_array d (value_is depth (spec.end_array ∷ ts)) h
  tells (Key s) d h = never (spec.key s.now) d (value_is depth (spec.key s.now ∷ ts)) h
  tells Bad d h = never spec.bad d (value_is depth (spec.bad ∷ ts)) h
  tells (String s) d h =
      let is = same (string s.now) d (sym (takes_string depth ts s.now) ∙ h) in
      record { array = λ _. ap as_array is; object = λ _. ap as_object is; whole = λ _. ap (λ e. option_and_then as_u64 (as_number e)) is }
  tells (Bool b) d h =
      let is = same (boolean b) d (sym (takes_boolean depth ts b) ∙ h) in
      record { array = λ _. ap as_array is; object = λ _. ap as_object is; whole = λ _. ap (λ e. option_and_then as_u64 (as_number e)) is }
  tells Null d h =
      let is = same null d (sym (takes_null depth ts) ∙ h) in
      record { array = λ _. ap as_array is; object = λ _. ap as_object is; whole = λ _. ap (λ e. option_and_then as_u64 (as_number e)) is }
  tells (Number s) d h = by (number_of s.now) refl (sym (ap (converted of_json) (value_is depth (spec.number s.now ∷ ts))) ∙ h)
    where
      by : (o : Option Num) → number_of s.now ≡ o → ◌≡◌ {A = Option (Data × List spec.Token)} (option_map (λ x. (x, ts)) (option_map number (number_of s.now))) (Some (d, new)) → Tells depth (Number s) d
      by None shown e =
          let none : ◌≡◌ {A = Option (Data × List spec.Token)} None (Some (d, new)) = sym (ap (λ o. option_map (λ x. (x, ts)) (option_map number o)) shown) ∙ e in
          absurd (cc)
      by (Some x) shown e =
          let is = same (number x) d (sym (ap (λ o. option_map (λ x. (x, ts)) (option_map number o)) shown) ∙ e) in
          record {
            array = λ _. ap as_array is;
            object = λ _. ap as_object is;
            whole = λ none. sym none ∙ ap (option_and_then as_u64) shown ∙ ap (λ e. option_and_then as_u64 (as_number e)) is;
          }

  pub not_array : (t : Token) (d : Data) → TakesValue depth (token_of t ∷ ts) d new → (0 < depth → t ≡ BeginArray → ⊥) → as_array d ≡ None
  not_array t d h other = sym ((tells t d h).array other)

  pub not_object : (t : Token) (d : Data) → TakesValue depth (token_of t ∷ ts) d new → (0 < depth → t ≡ BeginObject → ⊥) → as_object d ≡ None
  not_object t d h other = sym ((tells t d h).object other)

  pub not_whole : (limit : ℕ) (t : Token) (d : Data) → TakesValue depth (token_of t ∷ ts) d new → whole_in t ≡ None → None ≡ whole_below limit d
  not_whole limit t d h none = ap (option_and_then (λ n. if nat_lt n limit then Some n else None)) ((tells t d h).whole none)

-- a whole number's value
pub takes_whole : (depth : ℕ) (ts : List spec.Token) (t : Token) (n : ℕ) → whole_in t ≡ Some n → TakesValue depth (token_of t ∷ ts) (number (unsigned n)) ts
takes_whole depth ts BeginObject n e = absurd (cc)
takes_whole depth ts EndObject n e = absurd (cc)
takes_whole depth ts BeginArray n e = absurd (cc)
takes_whole depth ts EndArray n e = absurd (cc)
takes_whole depth ts (Key s) n e = absurd (cc)
takes_whole depth ts (String s) n e = absurd (cc)
takes_whole depth ts (Bool b) n e = absurd (cc)
takes_whole depth ts Null n e = absurd (cc)
takes_whole depth ts Bad n e = absurd (cc)
takes_whole depth ts (Number s) n e = takes_number depth ts s.now (unsigned n) (by (number_of s.now) e)
  where
    by : (o : Option Num) → option_and_then as_u64 o ≡ Some n → o ≡ Some (unsigned n)
    by None is = absurd (cc)
    by (Some (unsigned m)) is = ap (λ o. Some (unsigned (pick m o))) is
    by (Some (negative z)) is = absurd (cc)
    by (Some (float x)) is = absurd (cc)

pub whole_is : (limit n : ℕ) → n < limit → Some n ≡ whole_below limit (number (unsigned n))
whole_is limit n lt = rw (lt-ltb n limit lt) refl
