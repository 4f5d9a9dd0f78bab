-- The source reports the next entry by the length of its type's name, and then the others.
use Rattle.std.proofs.Common.{◌∙◌, ◌+◌, List, ap, map, sym, rules, of_calls, arith, length}
use Rattle.ob_dirs.specs.Page.{fit_of, shown_entry}
use Rattle.ob_dirs.specs.declared.entry.DirEntry.{DirEntry}
use Rattle.ob_dirs.proofs.Pages.{fits_alone, goes_on, stops_here, told_first, told_next}
use Rattle.ob_dirs.proofs.page.fitting.Goals as goal

pub returns-in_default-room_behind-clause-fit : goal.returns-in_default-room_behind-clause-fit
returns-in_default-room_behind-clause-fit g c type_name tells =
    let parts = c.loop-entry.invariant.3 type_name tells in
    let first = told_first (λ f id n h. goal.F-step g f id n h) c.loop-entry.len_of c.len_of-type_length.new.self c.in-Some.entry.now.object c.len_of-type_length.result type_name parts.0 c.len_of-type_length.ensures in
    sym (stops_here (shown_entry type_name c.in-Some.entry.now) (map (shown_entry type_name) c.next.new.self) c.loop-entry.fit.count c.loop-entry.fit.context c.loop-entry.free c.args.single (sym c.in_default-room_behind.is ∙ c.room_behind.ensures type_name first))
    ∙ ap (λ (es : List DirEntry). fit_of (map (shown_entry type_name) es) c.loop-entry.fit.count c.loop-entry.fit.context c.loop-entry.free c.args.single) (sym c.in-Some.ensures.steps)
    ∙ parts.1

pub returns-then-single-clause-fit : goal.returns-then-single-clause-fit
returns-then-single-clause-fit g c type_name tells =
    let parts = c.loop-entry.invariant.3 type_name tells in
    let first = told_first (λ f id n h. goal.F-step g f id n h) c.loop-entry.len_of c.len_of-type_length.new.self c.in-Some.entry.now.object c.len_of-type_length.result type_name parts.0 c.len_of-type_length.ensures in
    ap (λ more. record { count = c.loop-entry.fit.count + 1; more = more; context = c.in-Some.entry.now.stamp }) c.loop-entry.invariant.1
    ∙ sym (fits_alone (shown_entry type_name c.in-Some.entry.now) (map (shown_entry type_name) c.next.new.self) c.loop-entry.fit.count c.loop-entry.fit.context c.loop-entry.free c.in-Some-room_behind.less c.args.single c.if-single.true (sym c.in-Some-room_behind.is ∙ c.room_behind.ensures type_name first))
    ∙ ap (λ (es : List DirEntry). fit_of (map (shown_entry type_name) es) c.loop-entry.fit.count c.loop-entry.fit.context c.loop-entry.free c.args.single) (sym c.in-Some.ensures.steps)
    ∙ parts.1

pub loop-entry-preserved : goal.loop-entry-preserved
loop-entry-preserved g c = (
  search (rules, of_calls),
  c.loop-entry.invariant.1,
  omega (arith, c.loop-entry.invariant.2, ap length c.in-Some.ensures.steps),
  λ type_name tells.
      let parts = c.loop-entry.invariant.3 type_name tells in
      let first = told_first (λ f id n h. goal.F-step g f id n h) c.loop-entry.len_of c.len_of-type_length.new.self c.in-Some.entry.now.object c.len_of-type_length.result type_name parts.0 c.len_of-type_length.ensures in (
        told_next (λ f id n h. goal.F-step g f id n h) c.loop-entry.len_of c.len_of-type_length.new.self c.in-Some.entry.now.object c.len_of-type_length.result type_name parts.0 c.len_of-type_length.ensures,
        sym (goes_on (shown_entry type_name c.in-Some.entry.now) (map (shown_entry type_name) c.next.new.self) c.loop-entry.fit.count c.loop-entry.fit.context c.loop-entry.free c.in-Some-room_behind.less c.args.single c.if-single.false (sym c.in-Some-room_behind.is ∙ c.room_behind.ensures type_name first))
            ∙ ap (λ (es : List DirEntry). fit_of (map (shown_entry type_name) es) c.loop-entry.fit.count c.loop-entry.fit.context c.loop-entry.free c.args.single) (sym c.in-Some.ensures.steps)
            ∙ parts.1,
      ),
)
