-- `stored::read_header` meets its contract: a law for each return; a known version has bytes for the header. Assumes nothing.
use mathlib.Core.Path.{◌≡◌, refl, sym, ap, ◌∙◌}
use native.Mathlib.Omega.{arith}
use lib.ListN.{length}
use Rattle.stored.specs.Form.{version_number, version_as, version_of}
use Rattle.stored.proofs.Versions.{version_found, number_known, of_length, header_room}
use Rattle.stored.proofs.Taking.{header_length, heading}
use borrow.Author.Rules.{rules}
use Rattle.stored.proofs.read_header.Goals as goal

pub returns-in_default : goal.returns-in_default
returns-in_default c =
    header_length _ 0 (sym (ap version_as c.in_default.is) ∙ c.version_of.ensures) refl

pub bounds-s-0 : goal.bounds-s-0
bounds-s-0 c =
    let v : version_number c.in-Some.version ≡ version_of (length c.args.s.now) = version_found _ _ _ c.version_of.ensures c.in-Some.is in
    omega (arith, header_room _ (of_length _ _ v))

pub returns-then-s-from : goal.returns-then-s-from
returns-then-s-from c =
    let v : version_number c.in-Some.version ≡ version_of (length c.args.s.now) = version_found _ _ _ c.version_of.ensures c.in-Some.is in
    search (heading, number_known, rules)

pub slice_bounds-number_in-end : goal.slice_bounds-number_in-end
slice_bounds-number_in-end c =
    let v : version_number c.in-Some.version ≡ version_of (length c.args.s.now) = version_found _ _ _ c.version_of.ensures c.in-Some.is in
    omega (arith, header_room _ (of_length _ _ v))

pub returns-then-number_in-s : goal.returns-then-number_in-s
returns-then-number_in-s c =
    let v : version_number c.in-Some.version ≡ version_of (length c.args.s.now) = version_found _ _ _ c.version_of.ensures c.in-Some.is in
    search (heading, number_known, rules)

pub returns : goal.returns
returns c =
    let v : version_number c.in-Some.version ≡ version_of (length c.args.s.now) = version_found _ _ _ c.version_of.ensures c.in-Some.is in
    search (heading, number_known, rules)
