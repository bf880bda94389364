-- Typings of what is left of a body.
use Rattle.std.proofs.Common.{◌≡◌, ◌↔◌, List, [], ◌∷◌, Some, Bool, true, false, IsTrue, refl, subst, slice_get, ◌+◌, ◌<◌, ◌∙◌}
use Rattle.bl_wasm.specs.Typing.{Open, Context, Rule, Types, IsTyping}
use Rattle.bl_wasm.specs.declared.types.WasmType.{WasmType}
use Rattle.bl_wasm.specs.declared.instruction.Instr.{Instr}

abbrev Places : Type 1
Places = List Open → List WasmType → Type 0

-- from some of the places the items have a typing
abbrev pub Goes : Context → Places → List Instr → Type 0
Goes c S items = (open_ones : List Open) × (s : List WasmType) × (later : List (List WasmType)) × S open_ones s × Types c open_ones items (s ∷ later)

abbrev Over : Context → Instr → Places → Bool → Places → Type 0
Over c item S0 ok S2 = (behind : List Open) (to : List WasmType) →
    (IsTrue ok × S2 behind to) ↔ ((open_ones : List Open) × (from : List WasmType) × Rule c item open_ones from behind to × S0 open_ones from)

-- one item less is left
pub goes_on : (c : Context) (S0 S2 : Places) (item : Instr) (items : List Instr) (ok : Bool) → ok ≡ true → Over c item S0 ok S2 → Goes c S0 (item ∷ items) ↔ Goes c S2 items
goes_on c S0 S2 item items ok is over = (λ g. forth g.0 g.1 g.2 g.3 g.4, back)
  where
    forth : (open_ones : List Open) (s : List WasmType) (later : List (List WasmType)) → S0 open_ones s → Types c open_ones (item ∷ items) (s ∷ later) → Goes c S2 items
    forth open_ones s [] stands types = absurd types
    forth open_ones s (to ∷ later) stands types = (types.0, to, later, ((over types.0 to).1 (open_ones, s, types.1, stands)).1, types.2)

    back : Goes c S2 items → Goes c S0 (item ∷ items)
    back g = let p = (over g.0 g.1).0 (is, g.3) in (p.0, p.1, g.1 ∷ g.2, p.3, (g.0, p.2, g.4))

-- an item that nothing may stand before
pub goes_not : (c : Context) (S0 S2 : Places) (item : Instr) (items : List Instr) (ok : Bool) → ok ≡ false → Over c item S0 ok S2 → Goes c S0 (item ∷ items) ↔ ⊥
goes_not c S0 S2 item items ok isnt over = (λ g. forth g.0 g.1 g.2 g.3 g.4, λ b. absurd b)
  where
    forth : (open_ones : List Open) (s : List WasmType) (later : List (List WasmType)) → S0 open_ones s → Types c open_ones (item ∷ items) (s ∷ later) → ⊥
    forth open_ones s [] stands types = absurd types
    forth open_ones s (to ∷ later) stands types = let b : IsTrue ok = ((over types.0 to).1 (open_ones, s, types.1, stands)).0 in cc (isnt, b)

-- the end of the body
pub goes_done : (c : Context) (S : Places) → Goes c S [] ↔ S [] c.results
goes_done c S = (λ g. forth g.0 g.1 g.2 g.3 g.4, λ h. ([], c.results, [], h, (refl, refl)))
  where
    forth : (open_ones : List Open) (s : List WasmType) (later : List (List WasmType)) → S open_ones s → Types c open_ones [] (s ∷ later) → S [] c.results
    forth open_ones s [] stands types = subst (λ o. S o c.results) types.0 (subst (λ t. S open_ones t) types.1 stands)
    forth open_ones s (to ∷ later) stands types = absurd types

-- a typing of a body begins where nothing stands
pub goes_typing : (c : Context) (body : List Instr) → ((places : List (List WasmType)) × IsTyping c body places) ↔ Goes c (λ open_ones s. (open_ones ≡ []) × (s ≡ [])) body
goes_typing c body = (λ g. forth g.0 g.1.0 g.1.1, λ g. ([] ∷ g.2, (refl, subst (λ o. Types c o body ([] ∷ g.2)) g.3.0 (subst (λ t. Types c g.0 body (t ∷ g.2)) g.3.1 g.4))))
  where
    forth : (places : List (List WasmType)) → slice_get places 0 ≡ Some [] → Types c [] body places → Goes c (λ open_ones s. (open_ones ≡ []) × (s ≡ [])) body
    forth [] e types = absurd (cc e)
    forth (s ∷ later) e types = let f : s ≡ [] = cc e in ([], s, later, (refl, f), types)

-- the same places by another word
pub goes_same : (c : Context) (S T : Places) (items : List Instr) → ((open_ones : List Open) (s : List WasmType) → S open_ones s ↔ T open_ones s) → Goes c S items ↔ Goes c T items
goes_same c S T items h = (λ g. (g.0, g.1, g.2, (h g.0 g.1).0 g.3, g.4), λ g. (g.0, g.1, g.2, (h g.0 g.1).1 g.3, g.4))

pub chained : {P Q R : Type 0} → P ↔ Q → Q ↔ R → P ↔ R
chained f g = (λ p. g.0 (f.0 p), λ r. f.1 (g.1 r))

pub turned : {P Q : Type 0} → P ↔ Q → Q ↔ P
turned f = (f.1, f.0)
