-- Operands that are none of their verb's are those of no request of this verb.
use Rattle.ob_parts.proofs.Cuts.{IfNone-map}
use Rattle.ob_lines.proofs.Verbs.{no_request}
use Rattle.ob_lines.proofs.request.operands_of.Goals as goal

pub returns-in-Dir-clause-none : goal.returns-in-Dir-clause-none
returns-in-Dir-clause-none c = IfNone-map c.directory_of.result _ _ (no_request _ _ _ c.in-Dir.is) c.directory_of.ensures.none

pub returns-in-Shadow-clause-none : goal.returns-in-Shadow-clause-none
returns-in-Shadow-clause-none c = IfNone-map c.shadowed_of.result _ _ (no_request _ _ _ c.in-Shadow.is) c.shadowed_of.ensures.none

pub returns-in-Link-clause-none : goal.returns-in-Link-clause-none
returns-in-Link-clause-none c = IfNone-map c.link_of.result _ _ (no_request _ _ _ c.in-Link.is) c.link_of.ensures.none

pub returns-in-Make-clause-none : goal.returns-in-Make-clause-none
returns-in-Make-clause-none c = IfNone-map c.object_of.result _ _ (no_request _ _ _ c.in-Make.is) c.object_of.ensures.none

pub returns-in-OpenDir-clause-none : goal.returns-in-OpenDir-clause-none
returns-in-OpenDir-clause-none c = IfNone-map c.open_directory_of.result _ _ (no_request _ _ _ c.in-OpenDir.is) c.open_directory_of.ensures.none

pub returns-in-OpenLink-clause-none : goal.returns-in-OpenLink-clause-none
returns-in-OpenLink-clause-none c = IfNone-map c.open_link_of.result _ _ (no_request _ _ _ c.in-OpenLink.is) c.open_link_of.ensures.none

pub returns-in-Open-clause-none : goal.returns-in-Open-clause-none
returns-in-Open-clause-none c = IfNone-map c.open_object_of.result _ _ (no_request _ _ _ c.in-Open.is) c.open_object_of.ensures.none

pub returns-in-List-clause-none : goal.returns-in-List-clause-none
returns-in-List-clause-none c = IfNone-map c.directory_query_of.result _ _ (no_request _ _ _ c.in-List.is) c.directory_query_of.ensures.none

pub returns-in-Dup-clause-none : goal.returns-in-Dup-clause-none
returns-in-Dup-clause-none c = IfNone-map c.duplicate_of.result _ _ (no_request _ _ _ c.in-Dup.is) c.duplicate_of.ensures.none

pub returns-in-New-clause-none : goal.returns-in-New-clause-none
returns-in-New-clause-none c = IfNone-map c.new_process_of.result _ _ (no_request _ _ _ c.in-New.is) c.new_process_of.ensures.none

pub returns-in-Exit-clause-none : goal.returns-in-Exit-clause-none
returns-in-Exit-clause-none c = no_request _ _ _ c.in-Exit.is (λ s. s)
