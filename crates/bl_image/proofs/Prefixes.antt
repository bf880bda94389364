-- Images are prefix-free, and an image is one program's.
use Rattle.std.proofs.Common.{◌≡◌, ℕ, ◌+◌, List, [], ◌∷◌, ◌++◌, length, drop, ap, ap₂, sym, ◌∙◌, refl, arith, length-drop, append-nil}
use Rattle.bl_program.specs.Layout.{sum_before}
use Rattle.bl_program.specs.declared.command.Command.{Command}
use Rattle.bl_program.specs.declared.definitions.Demand.{Demand}
use Rattle.bl_program.specs.declared.definitions.FunctionDef.{FunctionDef}
use Rattle.bl_program.specs.declared.definitions.ProgramParts.{ProgramParts as Program}
use Rattle.bl_program.specs.declared.definitions.SiteWeight.{SiteWeight}
use Rattle.bl_leb.specs.Grammar.{exactly, given}
use Rattle.bl_format.specs.Image.{magic, header, version, additions, command, Image}
use Rattle.bl_image.specs.ReaderAnswers.{traps}
use Rattle.bl_image.proofs.GrammarRules.{Defined, definitions_one, listed_parts, listed_one, command_one}
use Rattle.bl_image.proofs.UniqueSpellings.{IsUnique, parted, unique_via, unique_from, unique_pair, unique_byte, unique_exactly, each_thing, each_bytes}
use Rattle.bl_image.proofs.WholeImage.{traps_first}

header_one : IsUnique header
header_one =
    unique_from (unique_pair magic_one unique_byte) (λ (n : ℕ). (tt {0}, n)) (λ p. p.1) (λ n. refl)
  where
    magic_one : IsUnique (λ (u : Unit {0}). exactly magic)
    magic_one = unique_via (λ these. given (length these ≡ 4) (exactly these)) (λ (u : Unit {0}). exactly magic) (λ u. magic) (unique_exactly 4) (λ y t h. (refl, h)) (λ x y a b h k e. refl)

-- ---- demands and weights

listed_thing : (l m : List Demand × List SiteWeight) (a b u v : List ℕ) → listed_parts l a → listed_parts m b → a ++ u ≡ b ++ v → (l.0 ≡ m.0) × (l.1 ≡ m.1) × (u ≡ v)
listed_thing l m a b u v h k e = let r = listed_one.thing l m a b u v h k e in (ap (λ x. x.0) r.0, ap (λ x. x.1) r.0, r.1)

additions_thing : (ds : List Demand) (ws : List SiteWeight) (es : List Demand) (xs : List SiteWeight) (a b u v : List ℕ) → version ds ws ≡ version es xs → additions ds ws a → additions es xs b → a ++ u ≡ b ++ v → (ds ≡ es) × (ws ≡ xs) × (u ≡ v)
additions_thing [] [] [] [] a b u v same h k e = (refl, refl, ap (λ t. t ++ u) (sym h) ∙ e ∙ ap (λ t. t ++ v) k)
additions_thing [] [] [] (x ∷ xs) a b u v same h k e = absurd (omega arith)
additions_thing [] [] (d ∷ es) xs a b u v same h k e = absurd (omega arith)
additions_thing [] (w ∷ ws) [] [] a b u v same h k e = absurd (omega arith)
additions_thing (d ∷ ds) ws [] [] a b u v same h k e = absurd (omega arith)
additions_thing [] (w ∷ ws) [] (x ∷ xs) a b u v same h k e = listed_thing ([], w ∷ ws) ([], x ∷ xs) a b u v h k e
additions_thing [] (w ∷ ws) (d ∷ es) xs a b u v same h k e = listed_thing ([], w ∷ ws) (d ∷ es, xs) a b u v h k e
additions_thing (d ∷ ds) ws [] (x ∷ xs) a b u v same h k e = listed_thing (d ∷ ds, ws) ([], x ∷ xs) a b u v h k e
additions_thing (d ∷ ds) ws (c ∷ es) xs a b u v same h k e = listed_thing (d ∷ ds, ws) (c ∷ es, xs) a b u v h k e

additions_bytes : (ds : List Demand) (ws : List SiteWeight) (a b : List ℕ) → additions ds ws a → additions ds ws b → a ≡ b
additions_bytes [] [] a b h k = h ∙ sym k
additions_bytes [] (w ∷ ws) a b h k = listed_one.bytes ([], w ∷ ws) a b h k
additions_bytes (d ∷ ds) ws a b h k = listed_one.bytes (d ∷ ds, ws) a b h k

-- ---- the whole

abbrev defined_of : Program → Defined
defined_of p = (p.globals, (p.memories, (p.functions, p.exports)))

abbrev made_of : Defined → List Demand → List SiteWeight → List Command → Program
made_of d ds ws cs = record { globals = d.0; memories = d.1.0; functions = d.1.1.0; exports = d.1.1.1; commands = cs; demands = ds; weights = ws }

-- two images that begin the same bytes are of one program, and end at the same place
pub whole_same : (p q : Program) (a b u v : List ℕ) → Image p a → Image q b → a ++ u ≡ b ++ v → (p ≡ q) × (u ≡ v)
whole_same p q a b u v one other e =
    let h = one.spelled in
    let k = other.spelled in
    let first = header_one.thing (version p.demands p.weights) (version q.demands q.weights) h.front k.front (h.rest ++ u) (k.rest ++ v) h.first k.first (parted a b u v h.front h.rest k.front k.rest e h.whole k.whole) in
    let i = h.second in
    let l = k.second in
    let second = definitions_one.thing (defined_of p) (defined_of q) i.front l.front (i.rest ++ u) (l.rest ++ v) i.first l.first (parted h.rest k.rest u v i.front i.rest l.front l.rest first.1 i.whole l.whole) in
    let j = i.second in
    let m = l.second in
    let third = additions_thing p.demands p.weights q.demands q.weights j.front m.front (j.rest ++ u) (m.rest ++ v) first.0 j.first m.first (parted i.rest l.rest u v j.front j.rest m.front m.rest second.1 j.whole m.whole) in
    let ends : length p.commands ≡ length q.commands =
    one.is_program.lengths ∙ ap (λ (d : Defined). 7 + sum_before (λ (f : FunctionDef). f.length) d.1.1.0 (length d.1.1.0)) second.0 ∙ sym other.is_program.lengths in
    let long : length (drop 7 p.commands) ≡ length (drop 7 q.commands) = omega (arith, length-drop 7 p.commands, length-drop 7 q.commands) in
    let last = each_thing (λ state x. state) (λ state. command) (λ state. command_one) (tt {0}) (drop 7 p.commands) (drop 7 q.commands) j.rest m.rest u v long j.second m.second third.2 in
    let commands = traps_first p one.is_program ∙ ap (λ cs. traps ++ cs) last.0 ∙ sym (traps_first q other.is_program) in (
      ap (λ d. made_of d p.demands p.weights p.commands) second.0 ∙ ap (λ ds. made_of (defined_of q) ds p.weights p.commands) third.0
          ∙ ap (λ ws. made_of (defined_of q) q.demands ws p.commands) third.1 ∙ ap (λ cs. made_of (defined_of q) q.demands q.weights cs) commands,
      last.1,
    )

pub one_program : (p q : Program) (bytes : List ℕ) → Image p bytes → Image q bytes → p ≡ q
one_program p q bytes one other = (whole_same p q bytes bytes [] [] one other refl).0

pub no_prefix : (p q : Program) (bytes rest : List ℕ) → Image p bytes → Image q (bytes ++ rest) → rest ≡ []
no_prefix p q bytes rest one other = (whole_same p q bytes (bytes ++ rest) rest [] one other (sym (append-nil (bytes ++ rest)))).1

pub one_image : (p : Program) (a b : List ℕ) → Image p a → Image p b → a ≡ b
one_image p a b one other =
    let h = one.spelled in
    let k = other.spelled in
    let i = h.second in
    let l = k.second in
    let j = i.second in
    let m = l.second in
    let last = each_bytes (λ state x. state) (λ state. command) (λ state. command_one) (tt {0}) (drop 7 p.commands) j.rest m.rest j.second m.second in
    let third = j.whole ∙ ap₂ (λ s t. s ++ t) (additions_bytes p.demands p.weights j.front m.front j.first m.first) last ∙ sym m.whole in
    let second = i.whole ∙ ap₂ (λ s t. s ++ t) (definitions_one.bytes (defined_of p) i.front l.front i.first l.first) third ∙ sym l.whole in
    h.whole ∙ ap₂ (λ s t. s ++ t) (header_one.bytes (version p.demands p.weights) h.front k.front h.first k.first) second ∙ sym k.whole
