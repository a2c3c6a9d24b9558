use Rattle.std.proofs.Common.{sym, ◌∙◌, rules}
use Rattle.opening.proofs.Opened.{can-open}
use Rattle.opening.proofs.Initialized.{forward-lists, backward-lists, starts-over, goals-over, start-past, goal-past, opened}
use Rattle.opening.proofs.initialize.Goals as goal

pub returns-then-starts-gt-MAX_ENTRIES : goal.returns-then-starts-gt-MAX_ENTRIES
returns-then-starts-gt-MAX_ENTRIES c = search (rules, starts-over)

pub returns-then-goals-gt-MAX_ENTRIES : goal.returns-then-goals-gt-MAX_ENTRIES
returns-then-goals-gt-MAX_ENTRIES c = search (rules, goals-over)

pub returns-then-not-are_vertices : goal.returns-then-not-are_vertices
returns-then-not-are_vertices c = search (rules, start-past)

pub returns-then-not-are_vertices-2 : goal.returns-then-not-are_vertices-2
returns-then-not-are_vertices-2 c = search (rules, goal-past)

pub open_search-requires : goal.open_search-requires
open_search-requires c = search (rules, can-open)

pub returns-then-words-eq0 : goal.returns-then-words-eq0
returns-then-words-eq0 c =
    let lists = forward-lists c.if-words-eq0.true _ _ in
    opened _ _ _ c.requires c.if-starts-gt-MAX_ENTRIES.false c.if-goals-gt-MAX_ENTRIES.false c.header-vertices.ensures
    (sym c.are_vertices.ensures ∙ c.if-not-are_vertices.false) (sym c.are_vertices-2.ensures ∙ c.if-not-are_vertices-2.false) _ _
    lists.0 lists.1 _ _ c.open_search.ensures

pub open_search-requires-2 : goal.open_search-requires-2
open_search-requires-2 c = search (rules, can-open)

pub returns : goal.returns
returns c =
    let lists = backward-lists _ c.if-words-eq0.false _ _ in
    opened _ _ _ c.requires c.if-starts-gt-MAX_ENTRIES.false c.if-goals-gt-MAX_ENTRIES.false c.header-vertices.ensures
    (sym c.are_vertices.ensures ∙ c.if-not-are_vertices.false) (sym c.are_vertices-2.ensures ∙ c.if-not-are_vertices-2.false) _ _
    lists.0 lists.1 _ _ c.open_search-2.ensures
