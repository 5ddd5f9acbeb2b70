-- "Against document 01's controller .. it always ends with SB's OK", also with a bank beside the record: the five calls are document 01's, of
-- the record alone, and a bank that S1 lets pass stays as it was. Assumes nothing.
use Prim.Native.Nat.{ℕ, zero, suc, ◌+◌, ◌≤◌, ◌<◌}
use mathlib.Core.Bool.{true}
use mathlib.Core.Path.{◌≡◌, refl, sym, ap, ◌∙◌, subst}
use mathlib.Core.List.{List, [], ◌∷◌}
use native.Mathlib.Omega.{arith}
use lib.ListN.{length}
use borrow.Author.Tests.{eq-eqb, ne_eqb, le-leb}
use Rattle.base.proofs.Tests.{◌also◌, between_yes, between_low, between_high}
use Rattle.base.specs.Text.{text}
use Rattle.text.specs.Word.{digits}
use Rattle.state.specs.declared.Record.{Record}
use Rattle.state.specs.declared.ParameterKind.TheVariants.{Factor}
use Rattle.state.specs.Parameter.{of_recipe, code_of, range_at}
use Rattle.state.specs.Field.{Field, address, access, phase, keypad, changed, reset, recipe, raw, number, value, level, get, position}
use Rattle.state.specs.Valid.{within}
use Rattle.state.specs.Event.{next_number, batch_set, flag_after}
use Rattle.bank.specs.declared.Bank.{Bank}
use Rattle.bank.specs.Bank as bank
use Rattle.frame.specs.declared.Kind.TheVariants.{Minicomputer}
use Rattle.command.specs.Commands as commands
use Rattle.command.specs.Commands.{factor_place, ◌≔◌, new_value, applied}
use Rattle.command.proofs.Tables.{number_after, Fitting, applied-valid, applied-reads}
use Rattle.controller.proofs.ReadBack.{LeavesAt, AnswersAt, parameter_shown, composition-same, recipe_served, value_served, batch_served, value_read, composition_read, held_there, held_elsewhere}
use Rattle.banked.specs.declared.Banked.{Banked}
use Rattle.banked.specs.Banked.{with}
use Rattle.drum.specs.declared.Change.{Change}
use Rattle.drum.specs.Drum.{asks, wants, good, checked, last, end, hands_out, picked, begin_of}
use Rattle.drum.proofs.Cases.{InRange, good-tells}
use Rattle.skid.specs.Exchange.{Lent, AllRoomy, Both, both, run, Ready, Holds, Apart, Loaded}
use Rattle.skid.proofs.Steps.{Gives, answered_right}
use Rattle.skid.proofs.Calls.{recipe_high, factor_place_lem, factor-within, factor_below, batch, batch_leaves, batch_closes}

-- ---- the run, if each step gets the reply that is wanted

-- n steps from step i on get it, and lead from the record u to the record w
abbrev Lead : Change → ℕ → ℕ → Record → Record → Type 0
Lead s zero i u w = u ≡ w
Lead s (suc n) i u w = (v : Record) × Gives i s u v × Lead s n (i + 1) v w

abbrev Ended : Both → Banked → Type 0
Ended x w = (x.change.told ≡ end) × (x.unit ≡ w)

module _ (s : Change) (fine : checked s ≡ good) (k : Bank) (passes : bank.valid k ≡ true) where
  run_ends : (ls : List Lent) (l : Lent) (i : ℕ) (b : List ℕ) (u w : Record) → AllRoomy (l ∷ ls) → 1 ≤ i → i + length ls ≡ last
      → Lead s (suc (length ls)) i u w → Ended (run (l ∷ ls) (both (hands_out i s b) (with u k))) (with w k)
  unfolding run
  run_ends [] l i b u w m low e (v, g, same) =
      subst (λ (x : Both). Ended x (with w k)) (sym (answered_right i s fine low (omega arith) b l k u v passes m.0 g))
      (simp (eq-eqb i last (omega arith)) (refl, ap (λ (x : Record). with x k) same))
  run_ends (n ∷ ls) l i b u w m low e (v, g, rest) =
      subst (λ (x : Both). Ended (run (n ∷ ls) x) (with w k))
      (sym (answered_right i s fine low (omega arith) b l k u v passes m.0 g ∙ simp (ne_eqb i last (λ z. omega arith))))
      (run_ends ls n (i + 1) l.next v w m.1 (omega arith) (omega arith) rest)

-- ---- the changes that NR, PC and SB make one after the other
abbrev recipe_changes : ℕ → List commands.Change
recipe_changes r = (recipe ≔ r) ∷ []

abbrev value_changes : ℕ → ℕ → List commands.Change
value_changes r f = new_value (factor_place r) f ∷ recipe_changes r

abbrev all_changes : ℕ → ℕ → ℕ → List commands.Change
all_changes r f p = batch p (value_changes r f)

-- the fields that NR and PC change
abbrev written : ℕ → List Field
written r = recipe ∷ value (factor_place r) ∷ changed ∷ []

module _ (r f : ℕ) (u : Record) (g : Field) (h : Apart g (written r)) where
  after_recipe : number_after g (recipe_changes r) u ≡ get g u
  unfolding number_after
  after_recipe = held_elsewhere recipe g r _ h.0

  after_value : number_after g (value_changes r f) u ≡ get g u
  unfolding number_after
  after_value = held_elsewhere (value (factor_place r)) g f _ h.1.0 ∙ (held_elsewhere changed g _ _ h.1.1.0 ∙ after_recipe)

-- changes of these fields only leave the record as ready
module _ (a r : ℕ) (u : Record) (k : Bank) (g : Ready a r (with u k)) (cs : List commands.Change) (fits : Fitting cs)
    (spared : (z : Field) → Apart z (written r) → number_after z cs u ≡ get z u) where
  kept : (z : Field) → Apart z (written r) → get z (applied cs u) ≡ get z u
  kept z h = applied-reads u g.valid_record cs fits z ∙ spared z h

  -- the fields before the flag
  early : (z : Field) → position z < position changed → get z (applied cs u) ≡ get z u
  early z h = kept z ((λ e. omega arith) also (λ e. omega arith) also (λ e. omega arith) also tt)

  ready_still : Ready a r (with (applied cs u) k)
  ready_still =
      let level-kept = kept (level (factor_place r)) ((λ e. omega arith) also (λ e. omega arith) also (λ e. omega arith) also tt) in
      let access-kept = early access (omega arith) in
      let h = g.level-within in
      record {
        valid_record = applied-valid u g.valid_record cs fits;
        valid_bank = g.valid_bank;
        same_address = early address (omega arith) ∙ g.same_address;
        in_idle = early phase (omega arith) ∙ g.in_idle;
        keypad_off = early keypad (omega arith) ∙ g.keypad_off;
        level-within = omega arith;
      }

module _ (a r f p : ℕ) (fine : checked (picked a r f p) ≡ good) (u : Record) (k : Bank) (g : Ready a r (with u k)) where
  abbrev s : Change
  s = picked a r f p

  abbrev factor : Field
  factor = value (factor_place r)

  ranges : InRange s
  ranges = good-tells s fine

  -- ---- the records after NR, after PC and after SB
  abbrev chosen : Record
  chosen = applied (recipe_changes r) u

  abbrev adjusted : Record
  adjusted = applied (value_changes r f) u

  abbrev loaded : Record
  loaded = applied (all_changes r f p) u

  factor-fits : within (range_at (factor_place r)) f ≡ true
  factor-fits = sym (factor-within r ranges.recipe_in f) ∙ ranges.factor_in

  value-fits : Fitting (value_changes r f)
  value-fits = let h = recipe_high r ranges.recipe_in in (omega arith, factor-fits) also (omega arith, omega arith, ranges.recipe_in) also tt

  all_fits : Fitting (all_changes r f p)
  all_fits =
      (omega arith, omega arith, refl) also (omega arith, omega arith, between_yes _ _ p (omega arith) (between_high _ _ p ranges.preset_in))
      also (omega arith, omega arith, refl) also (omega arith, omega arith, refl) also tt also value-fits

  adjusted_reads : (z : Field) → get z adjusted ≡ number_after z (value_changes r f) u
  adjusted_reads = applied-reads u g.valid_record (value_changes r f) value-fits

  loaded_reads : (z : Field) → get z loaded ≡ number_after z (all_changes r f p) u
  loaded_reads = applied-reads u g.valid_record (all_changes r f p) all_fits

  chosen_ready : Ready a r (with chosen k)
  chosen_ready = ready_still a r u k g (recipe_changes r) value-fits.1 (after_recipe r f u)

  adjusted_ready : Ready a r (with adjusted k)
  adjusted_ready = ready_still a r u k g (value_changes r f) value-fits (after_value r f u)

  adjusted_holds : Holds r f adjusted
  unfolding number_after
  adjusted_holds =
      record {
        recipe-held = adjusted_reads recipe ∙ held_elsewhere factor recipe f _ (λ e. omega arith);
        factor-held = adjusted_reads factor ∙ held_there factor f _;
      }

  loaded_so : Loaded r f p (with u k) (with loaded k)
  unfolding number_after
  loaded_so =
      record {
        valid_record = applied-valid u g.valid_record (all_changes r f p) all_fits;
        closed = batch_closes p (value_changes r f) u adjusted loaded adjusted_reads loaded_reads r f adjusted_holds;
        changed_by =
            loaded_reads changed ∙ (held_elsewhere factor changed f _ (λ e. omega arith)
            ∙ ap (λ (v : ℕ). flag_after v f (get changed u)) (held_elsewhere recipe factor r _ (λ e. omega arith)));
        raw_zero = loaded_reads raw;
        reset_on = loaded_reads reset;
        number_next = loaded_reads number ∙ ap next_number (held_elsewhere factor number f _ (λ e. omega arith));
        others =
            λ z h.
            batch_leaves p (value_changes r f) u adjusted loaded adjusted_reads loaded_reads z h.1.1.1
            ∙ (adjusted_reads z ∙ after_value r f u z (h.0 also h.1.0 also h.1.1.0 also tt));
        same_bank = refl;
      }

  -- ---- the five calls, at the picked address
  given : (i : ℕ) (t w : Record) → Ready a r (with t k)
      → ((o : List ℕ) → 64 ≤ length o → LeavesAt Minicomputer t o (get address t) (asks i s) (wants i s) w) → Gives i s t w
  given i t w h e o room = subst (λ (n : ℕ). LeavesAt Minicomputer t o n (asks i s) (wants i s) w) h.same_address (e o room)

  recipe-given : Gives 1 s u chosen
  unfolding asks wants applied
  recipe-given = given 1 u chosen g (λ o room. recipe_served Minicomputer u o g.valid_record room g.in_idle g.keypad_off r ranges.recipe_in)

  value-given : Gives 2 s chosen adjusted
  unfolding asks wants applied
  value-given =
      let h = chosen_ready in
      given 2 chosen adjusted h
      (λ o room. value_served Minicomputer chosen o h.valid_record room h.in_idle h.keypad_off (code_of (of_recipe r Factor)) (factor_place r) f
      (factor_place_lem r ranges.recipe_in) (factor_below f ranges.factor_in) factor-fits h.level-within)

  value-shown : Gives 3 s adjusted adjusted
  unfolding asks wants digits
  value-shown =
      let h = adjusted_ready in
      let c : ℕ = code_of (of_recipe r Factor) in
      given 3 adjusted adjusted h
      (λ o room. subst (λ (n : ℕ). AnswersAt Minicomputer adjusted o (get address adjusted) (asks 3 s) (parameter_shown (text "PV ") c 8 n))
      adjusted_holds.factor-held
      (value_read Minicomputer adjusted o h.valid_record room c (factor_place r) (factor_place_lem r ranges.recipe_in)))

  composition_shown_lem : Gives 4 s adjusted adjusted
  unfolding asks wants
  composition_shown_lem =
      let h = adjusted_ready in
      let same = adjusted_holds.recipe-held in
      given 4 adjusted adjusted h
      (λ o room. subst (AnswersAt Minicomputer adjusted o (get address adjusted) (asks 4 s))
      (composition-same _ _ _ _ same (ap (λ (n : ℕ). get (value (factor_place n)) adjusted) same ∙ adjusted_holds.factor-held))
      (composition_read Minicomputer adjusted o h.valid_record room))

  batch_given : Gives 5 s adjusted loaded
  unfolding asks wants applied batch_set
  batch_given =
      let h = adjusted_ready in
      given 5 adjusted loaded h
      (λ o room. batch_served Minicomputer adjusted o h.valid_record room h.in_idle h.keypad_off p
      (between_low _ _ p ranges.preset_in) (between_high _ _ p ranges.preset_in))

  five_lead : Lead s 5 1 u loaded
  five_lead = (_, recipe-given, (_, value-given, (_, value-shown, (_, composition_shown_lem, (_, batch_given, refl)))))

-- "it always ends with SB's OK": after five exchanges, whatever the lent buffers hold
pub always_ends : (a r f p : ℕ) → checked (picked a r f p) ≡ good → (o : List ℕ) → 64 ≤ length o → (u : Banked) → Ready a r u
    → (ls : List Lent) → length ls ≡ 5 → AllRoomy ls
    → ((run ls (both (begin_of a r f p o) u)).change.told ≡ end) × Loaded r f p u (run ls (both (begin_of a r f p o) u)).unit
unfolding begin_of
always_ends a r f p fine o room u g [] e m = absurd (omega arith)
always_ends a r f p fine o room u g (l ∷ ls) e m =
    let w : Record = loaded a r f p fine u.state u.bank g in
    let lead = subst (λ (n : ℕ). Lead (picked a r f p) n 1 u.state w) (sym e) (five_lead a r f p fine u.state u.bank g) in
    let (told, left) = run_ends (picked a r f p) fine u.bank g.valid_bank ls l 1 o u.state w m (omega arith) (omega arith) lead in
    simp (fine, le-leb 64 (length o) room) (told, subst (Loaded r f p u) (sym left) (loaded_so a r f p fine u.state u.bank g))
