-- What is protected is a site, of a weight below 2^63.
use Rattle.std.proofs.Common.{◌≡◌, ◌∙◌, ℕ, ◌^◌, ◌<◌, true, false, Option, Some, None, unwrap_or, length, ap, refl, arith, min}
use Rattle.std.specs.Prelude.{IsSome, if◌then◌else◌, option_and_then, option_map}
use Rattle.std.proofs.lemmas.Bool.{false≢true}
use Rattle.std.proofs.lemmas.Option.{none-some, slice_get_within}
use Rattle.bl_base.proofs.Sums.{sum_term}
use Rattle.bl_program.specs.Layout.{command_at}
use Rattle.bl_program.specs.Sites.{IsSite, is_protected, listed, mark_of, site_weight, weight_of}
use Rattle.bl_program.specs.declared.command.Command.{Command}
use Rattle.bl_program.specs.declared.command.Mark.{Mark}
use Rattle.bl_program.specs.declared.definitions.ProgramParts.{ProgramParts as Program}

marked : (o : Option Mark) (weigh : Mark → ℕ) → unwrap_or (option_map (λ (mark : Mark). mark.protect) o) false ≡ true → IsSome (option_map weigh o)
marked None weigh h = absurd (false≢true h)
marked (Some mark) weigh h = refl

pub protected_site : (program : Program) (s : ℕ) → is_protected program s ≡ true → IsSite program s
protected_site program s h = marked (option_and_then mark_of (command_at program s)) (λ mark. unwrap_or (listed program.weights s) (10 ^ mark.depth)) h

stands : (o : Option Command) (weigh : Mark → ℕ) (w : ℕ) → option_map weigh (option_and_then mark_of o) ≡ Some w → (c : Command) × (o ≡ Some c)
stands None weigh w e = absurd (none-some w e)
stands (Some c) weigh w e = (c, refl)

pub site_low : (program : Program) (s w : ℕ) → site_weight program s ≡ Some w → s < length program.commands
site_low program s w e =
    let there = stands (command_at program s) (λ mark. unwrap_or (listed program.weights s) (10 ^ mark.depth)) w e in
    slice_get_within program.commands s there.0 there.1

-- the weight of a protected site
pub protect_weighs : (program : Program) (s w : ℕ) → weight_of program (λ _. true) < 2 ^ 63 → site_weight program s ≡ Some w → is_protected program s ≡ true
    → w ≡ min (if is_protected program s then unwrap_or (site_weight program s) 0 else 0) (2 ^ 63)
protect_weighs program s w total e protect =
    let term = sum_term (length program.commands) (λ t. unwrap_or (site_weight program t) 0) s (site_low program s w e) in
    let value : unwrap_or (site_weight program s) 0 ≡ w = ap (λ o. unwrap_or o 0) e in
    let chosen : (if is_protected program s then unwrap_or (site_weight program s) 0 else 0) ≡ w = ap (λ b. if b then unwrap_or (site_weight program s) 0 else 0) protect ∙ value in
    omega arith
