use Rattle.std.proofs.Common.{◌≡◌, ◌≤◌, ◌-◌, ◌++◌, count_by, take}
use Rattle.std.specs.List.{filter, range_with_len}
use Rattle.bl_program.specs.Sites.{is_protected}
use Rattle.bl_report.specs.Reports.{is_site, protects}
use Rattle.bl_report.proofs.sites.sites_of.Given as goal

-- the sites so far are counted, and the protects so far, and then those of the rest, are all
abbrev pub invariant-loop-at : goal.invariant-loop-at
invariant-loop-at l = record {
  counted : l.sites.count ≡ count_by is_site (take l.at l.parts.commands);
  few : l.sites.count ≤ l.at;
  kept : l.sites.protects.items ++ filter (is_protected l.parts) (range_with_len l.at (l.at-end - l.at)) ≡ protects l.parts;
}
