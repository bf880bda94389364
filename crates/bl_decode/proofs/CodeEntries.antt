-- The head of the code section, and an entry more.
use Rattle.std.proofs.Common.{◌≡◌, ◌∙◌, ap, sym, subst, refl, ℕ, ◌+◌, ◌-◌, ◌<◌, ◌≤◌, ◌⊎◌, inl, inr, List, [], ◌∷◌, ◌++◌, length, append_assoc, append-nil, arith, length-append}
use Rattle.bl_wasm.specs.Values.{u32, byte_vec}
use Rattle.bl_wasm.specs.Sections.{code_entry, function_code}
use Rattle.bl_wasm.specs.declared.module.Code.{Code}
use Rattle.bl_code.proofs.Unique.{u32_same, byte_vec_prefix_free}
use Rattle.bl_base.proofs.Lists.{rest_same}
use Rattle.bl_decode.specs.Laws.{code_entry_prefix_free}
use Rattle.bl_decode.specs.ModulePrefixes.{code, BeginsWith}
use Rattle.bl_decode.specs.ScanStates.{Passed, Inside, Entered, Closed}
use Rattle.bl_decode.proofs.ModulePrefixLemmas.{behind_code}

module _ (least room promised : ℕ) (size count front : List ℕ) (p : Passed least front) (sized : u32 room size) (counted : u32 promised count) where
  abbrev entrance : List ℕ
  entrance = 10 ∷ (size ++ count)

  regroup : (tail : List ℕ) → front ++ (10 ∷ (size ++ (count ++ tail))) ≡ (front ++ entrance) ++ tail
  regroup tail = ap (λ t. front ++ (10 ∷ t)) (sym (append_assoc size count tail)) ∙ sym (append_assoc front entrance tail)

  -- behind the head of the code section
  pub entered_code : length count ≤ room → Entered (front ++ entrance) [] (room - length count) promised
  entered_code fits = record {
    there = λ tail others i.
        subst (λ t. BeginsWith t others) (regroup tail)
        (p.there (10 ∷ (size ++ (count ++ tail))) others (code least (size ++ (count ++ tail)) others (record {
          size = size;
          count = count;
          entries = i.entries;
          rest = i.rest;
          room = room;
          promised = promised;
          whole = ap (λ t. size ++ (count ++ t)) i.whole;
          sized = sized;
          counted = counted;
          few = i.few;
          spelled = i.spelled;
          inside = (let f = i.fits in omega arith);
        })));
    asked = λ tail all b.
        let begins = p.asked (10 ∷ (size ++ (count ++ tail))) all (subst (λ t. BeginsWith t all) (sym (regroup tail)) b) in
        let c = behind_code least (10 ∷ (size ++ (count ++ tail))) (size ++ (count ++ tail)) all refl begins in
        let whole = sym c.whole in
        let sizes = (u32_same c.room room).both c.size size _ _ c.sized sized whole in
        let after_size = rest_same c.size size _ _ sizes.0 whole in
        let counts = (u32_same c.promised promised).both c.count count _ _ c.counted counted after_size in
        let after_count = rest_same c.count count _ _ counts.0 after_size in
        let few = c.few in
        let inside = c.inside in
        inr (all, omega arith, record { entries = c.entries; rest = c.rest; whole = sym after_count; few = omega (arith, counts.1); spelled = c.spelled; fits = omega (arith, sizes.1, ap length counts.0) });
  }

module _ (room left : ℕ) (front : List ℕ) (bodies : List Code) (p : Entered front bodies room left) where
  -- one entry more
  pub entered_entry : (body : Code) (part : List ℕ) → 0 < left → length part ≤ room → code_entry body part → Entered (front ++ part) (bodies ++ body ∷ []) (room - length part) (left - 1)
  entered_entry body part some fits h = record {
    there = λ tail others i.
        let f = i.fits in
        let few = i.few in
        let all = p.there (part ++ tail) (body ∷ others) (record {
          entries = part ++ i.entries;
          rest = i.rest;
          whole = ap (λ t. part ++ t) i.whole ∙ sym (append_assoc part i.entries i.rest);
          few = omega arith;
          spelled = record { front = part; rest = i.entries; whole = refl; first = h; second = i.spelled };
          fits = omega (arith, length-append part i.entries);
        }) in
        subst (λ l. BeginsWith ((front ++ part) ++ tail) l) (sym (append_assoc bodies (body ∷ []) others))
        (subst (λ t. BeginsWith t (bodies ++ body ∷ others)) (sym (append_assoc front part tail)) all);
    asked = λ tail all b.
        elim (p.asked (part ++ tail) all (subst (λ t. BeginsWith t all) (append_assoc front part tail) b)) [
          | inl le ↦ inl (omega (arith, le, length-append bodies (body ∷ [])))
          | inr more ↦ longer tail all more.0 more.1 more.2
        ];
  }
    where
      longer : (tail : List ℕ) (all others : List Code) → length all ≡ length bodies + length others → Inside room left (part ++ tail) others
          → (length all ≤ length (bodies ++ body ∷ [])) ⊎ ((rest : List Code) × (length all ≡ length (bodies ++ body ∷ []) + length rest) × Inside (room - length part) (left - 1) tail rest)
      longer tail all [] long i = inl (omega (arith, long, length-append bodies (body ∷ [])))
      longer tail all (c ∷ rest) long i =
          let s = i.spelled in
          let few = i.few in
          let fit = i.fits in
          let whole : s.front ++ (s.rest ++ i.rest) ≡ part ++ tail = sym (i.whole ∙ ap (λ t. t ++ i.rest) s.whole ∙ append_assoc s.front s.rest i.rest) in
          let same = (code_entry_prefix_free.same c body).both s.front part (s.rest ++ i.rest) tail s.first h whole in
          let tails = rest_same s.front part (s.rest ++ i.rest) tail same.0 whole in
          inr (
            rest,
            omega (arith, long, length-append bodies (body ∷ [])),
            record {
              entries = s.rest;
              rest = i.rest;
              whole = sym tails;
              few = omega arith;
              spelled = s.second;
              fits = omega (arith, ap length s.whole, length-append s.front s.rest, ap length same.0);
            },
          )

  -- one whose contents are no code
  pub closed_entry : (contents part rest : List ℕ) → byte_vec contents part → ((body : Code) → function_code body contents → ⊥) → Closed (front ++ (part ++ rest)) bodies
  closed_entry contents part rest shaped none = record {
    there = inr (λ tail. subst (λ l. BeginsWith ((front ++ (part ++ rest)) ++ tail) l) (append-nil bodies) (subst (λ t. BeginsWith t (bodies ++ [])) (sym (append_assoc front (part ++ rest) tail)) (p.there ((part ++ rest) ++ tail) [] (record { entries = []; rest = (part ++ rest) ++ tail; whole = refl; few = omega arith; spelled = refl; fits = omega arith }))));
    most = λ tail all b.
        elim (p.asked ((part ++ rest) ++ tail) all (subst (λ t. BeginsWith t all) (append_assoc front (part ++ rest) tail) b)) [
          | inl le ↦ le
          | inr more ↦ shorter tail all more.0 more.1 more.2
        ];
  }
    where
      shorter : (tail : List ℕ) (all others : List Code) → length all ≡ length bodies + length others → Inside room left ((part ++ rest) ++ tail) others → length all ≤ length bodies
      shorter tail all [] long i = omega (arith, long)
      shorter tail all (c ∷ more) long i =
          let s = i.spelled in
          let z = s.first in
          let whole : s.front ++ (s.rest ++ i.rest) ≡ part ++ (rest ++ tail)
          = sym (i.whole ∙ ap (λ t. t ++ i.rest) s.whole ∙ append_assoc s.front s.rest i.rest) ∙ append_assoc part rest tail in
          let same = (byte_vec_prefix_free.same z.contents contents).both s.front part (s.rest ++ i.rest) (rest ++ tail)
          (record { front = z.size; rest = z.contents; whole = z.whole; first = z.counted; second = refl }) shaped whole in
          absurd (none c (subst (function_code c) same.1 z.spelled))
