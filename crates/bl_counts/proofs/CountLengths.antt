-- The count file of a run is no longer than is read.
use Rattle.std.proofs.Common.{◌≡◌, ℕ, zero, suc, ◌+◌, ◌*◌, ◌^◌, ◌<◌, ◌≤◌, List, [], ◌∷◌, ◌++◌, length, Option, Some, None, codes, refl, arith}
use Rattle.std.specs.Fmt.{decimal}
use Rattle.std.specs.List.{All, flat_map}
use Rattle.std.proofs.lemmas.Fmt.{length-decimal-le}
use Rattle.std.proofs.lemmas.List.{length-append}
use Rattle.std.proofs.lemmas.List.Elements.{All-head, All-tail}
use Rattle.bl_base.specs.Quantity.{limit_of}
use Rattle.bl_base.specs.declared.quantity.Quantity.TheVariants as quantity
use Rattle.bl_base.specs.declared.start.Start.{Start}
use Rattle.bl_program.specs.Rules.{IsWellFormed}
use Rattle.bl_program.specs.Sites.{mark_of}
use Rattle.bl_program.specs.declared.command.Command.{Command}
use Rattle.bl_program.specs.declared.command.Mark.{Mark}
use Rattle.bl_program.specs.declared.definitions.ProgramParts.{ProgramParts as Program}
use Rattle.bl_counts.specs.CountFiles.{counts_text, site_text}
use Rattle.bl_counts.specs.RecordedRuns.{IsWritten}
use Rattle.bl_counts.specs.RunCounts.{counts_from, counts_of, executed, times, with_count}
use Rattle.bl_counts.specs.declared.counts.SiteCount.{SiteCount}
use Rattle.bl_counts.proofs.RecordedCounts.{recorded}

-- a line of four pieces
four : (a b c d e : List ℕ) → length (a ++ b ++ c ++ d ++ e) ≡ length a + length b + length c + length d + length e
four a b c d e =
    let one = length-append (a ++ b ++ c ++ d) e in
    let two = length-append (a ++ b ++ c) d in
    let three = length-append (a ++ b) c in
    let last = length-append a b in
    omega arith

line_short : (one : SiteCount) → IsWritten one → length (site_text one) ≤ 27
line_short one is =
    let at_fits = is.at_fits in
    let count_fits = is.count_fits in
    let position = length-decimal-le 10 one.at.0 (omega arith) (omega (arith, at_fits)) (omega (arith, at_fits)) in
    let count = length-decimal-le 10 one.count (omega arith) (omega (arith, count_fits)) (omega (arith, count_fits)) in
    let all = four (codes "site ") (decimal one.at.0) (codes " ") (decimal one.count) (10 ∷ []) in
    omega (arith, position, count, all)

lines_short : (counts : List SiteCount) → All IsWritten counts → length (flat_map site_text counts) ≤ 27 * length counts
lines_short [] all = omega arith
lines_short (one ∷ counts) all =
    let first = line_short one (All-head IsWritten one counts all) in
    let rest = lines_short counts (All-tail IsWritten one counts all) in
    let both = length-append (site_text one) (flat_map site_text counts) in
    omega (arith, first, rest, both)

-- a site has at most one
few_with : (s n : ℕ) (o : Option Mark) (others : List SiteCount) → length (with_count s n o others) ≤ suc (length others)
few_with s zero o others = omega arith
few_with s (suc n) None others = omega arith
few_with s (suc n) (Some mark) others = omega arith

few_counts : (count : ℕ → ℕ) (i : ℕ) (commands : List Command) → length (counts_from count i commands) ≤ length commands
few_counts count i [] = omega arith
few_counts count i (command ∷ commands) =
    let one = few_with i (count i) (mark_of command) (counts_from count (suc i) commands) in
    let rest = few_counts count (suc i) commands in
    omega (arith, one, rest)

pub file_short : (program : Program) (function : ℕ) (start : Start) (steps : ℕ) → IsWellFormed program → steps < 2 ^ 32
    → length (counts_text (length program.commands) (counts_of program function start steps)) ≤ limit_of quantity.Counts
file_short program function start steps rules small =
    let counts = counts_of program function start steps in
    let lines = lines_short counts (recorded program program function start steps rules refl small).each in
    let few = few_counts (times (executed program function start steps)) 0 program.commands in
    let commands = rules.rule2.commands in
    let number = length-decimal-le 20 (length program.commands) (omega arith) (omega (arith, commands)) (omega (arith, commands)) in
    let one = length-append (codes "commands " ++ decimal (length program.commands) ++ 10 ∷ []) (flat_map site_text counts) in
    let two = length-append (codes "commands " ++ decimal (length program.commands)) (10 ∷ []) in
    let three = length-append (codes "commands ") (decimal (length program.commands)) in
    omega (arith, lines, few, number, one, two, three)
