-- Custom sections from a place on.
use Rattle.std.proofs.Common.{◌≡◌, ◌∙◌, ap, sym, refl, subst, ℕ, ◌+◌, ◌<◌, ◌≤◌, List, [], ◌∷◌, length, drop, get_or, arith, true, false, Option, Some, None, Result, Err}
use Rattle.std.specs.Prelude.{if◌then◌else◌, IfNone, IfSome}
use Rattle.std.specs.Option.{is_some}
use Rattle.std.specs.List.{cons_option}
use Rattle.std.specs.Str.{bytes_eq}
use Rattle.std.proofs.lemmas.List.{drop_all, drop_more, get_or_default}
use Rattle.bl_wasm.specs.declared.module.CustomSection.{CustomSection}
use Rattle.bl_wasm.specs.declared.module.Module.{Module}
use Rattle.bl_labels.specs.LabelAnswers.{InSection, Tells}
use Rattle.bl_labels.specs.declared.error.LabelError.{LabelError}
use Rattle.bl_labels.specs.declared.error.LabelError.TheVariants.{Twice}
use Rattle.bl_labels.specs.declared.labels.Labels.{Labels}
use Rattle.bl_labels.specs.Faults.{IsNext, bytes_of, labels_name, sections_of}

-- the one at a place, and those behind it
sections_at : (customs : List CustomSection) (place : ℕ) (one : CustomSection) → place < length customs → one ≡ get_or customs place one
    → sections_of (drop place customs) ≡ cons_option (bytes_of one) (sections_of (drop (place + 1) customs))
sections_at customs place one below is =
    ap sections_of (drop_more customs place one below) ∙ ap (λ x. cons_option (bytes_of x) (sections_of (drop (place + 1) customs))) (sym is)

-- it isn't one of labels
pub passed : (customs : List CustomSection) (from place : ℕ) (one : CustomSection) → place < length customs → one ≡ get_or customs place one → bytes_eq one.name labels_name ≡ false
    → sections_of (drop from customs) ≡ sections_of (drop place customs) → sections_of (drop from customs) ≡ sections_of (drop (place + 1) customs)
passed customs from place one below is other so_far =
    so_far ∙ sections_at customs place one below is ∙ ap (λ b. cons_option (if b then Some one.bytes else None) (sections_of (drop (place + 1) customs))) other

-- it is
pub found : (customs : List CustomSection) (from place : ℕ) (one : CustomSection) → place < length customs → one ≡ get_or customs place one → bytes_eq one.name labels_name ≡ true
    → sections_of (drop from customs) ≡ sections_of (drop place customs) → IsNext customs from place
found customs from place one below is named so_far = record {
  inside = below;
  is = λ custom.
      so_far
      ∙ ap sections_of (drop_more customs place custom below)
      ∙ ap (λ x. cons_option (bytes_of x) (sections_of (drop (place + 1) customs))) (same custom)
      ∙ ap (λ b. cons_option (if b then Some one.bytes else None) (sections_of (drop (place + 1) customs))) named
      ∙ ap (λ x. x.bytes ∷ sections_of (drop (place + 1) customs)) (sym (same custom));
}
  where
    same : (custom : CustomSection) → get_or customs place custom ≡ one
    same custom = get_or_default customs place custom one below ∙ sym is

-- none is left
pub none_left : (customs : List CustomSection) (from place : ℕ) → length customs ≤ place → sections_of (drop from customs) ≡ sections_of (drop place customs) → sections_of (drop from customs) ≡ []
none_left customs from place past so_far = so_far ∙ ap sections_of (drop_all place customs past)

-- ---- what is answered

-- two sections
two_told : (tree : Module) (customs : List CustomSection) (place second : ℕ) → IsNext customs 0 place → IsNext customs (place + 1) second → Tells tree (sections_of customs) (Err Twice)
two_told tree [] place second first next = let none = first.inside in absurd (omega arith)
two_told tree (one ∷ customs) place second first next =
    subst (λ s. Tells tree s (Err Twice)) (sym (first.is one ∙ ap (λ s. (get_or (one ∷ customs) place one).bytes ∷ s) (next.is one))) refl

pub twice_found : (tree : Module) (customs read : List CustomSection) (place : ℕ) (o : Option ℕ) → read ≡ customs → IsNext read 0 place → IfSome o (λ second. IsNext read (place + 1) second) → is_some o ≡ true
    → Tells tree (sections_of customs) (Err Twice)
twice_found tree customs read place (Some second) same first next some = subst (λ (cs : List CustomSection). Tells tree (sections_of cs) (Err Twice)) same (two_told tree read place second first next)
twice_found tree customs read place None same first next some = absurd (cc)

-- one section
pub once_found : (tree : Module) (customs read : List CustomSection) (place : ℕ) (custom : CustomSection) (bytes : List ℕ) (answer : Result Labels LabelError) (o : Option ℕ) → read ≡ customs → IsNext read 0 place
    → IfNone o (sections_of (drop (place + 1) read) ≡ []) → is_some o ≡ false → bytes ≡ (get_or read place custom).bytes → InSection tree bytes answer → Tells tree (sections_of customs) answer
once_found tree customs read place custom bytes answer (Some second) same first none some is h = absurd (cc)
once_found tree customs read place custom bytes answer None same first none some is h =
    let all : sections_of read ≡ bytes ∷ [] = first.is custom ∙ ap (λ s. (get_or read place custom).bytes ∷ s) none ∙ ap (λ (b : List ℕ). b ∷ []) (sym is) in
    subst (λ (cs : List CustomSection). Tells tree (sections_of cs) answer) same (subst (λ s. Tells tree s answer) (sym all) h)
