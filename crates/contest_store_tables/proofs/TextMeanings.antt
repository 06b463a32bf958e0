-- What the texts of the statements on the tables mean.
use Rattle.std.proofs.Common.{[], ◌∷◌, codes, refl}
use Rattle.sqlite_tied.specs.Compute.{everything}
use Rattle.sqlite.specs.Listing.{understood}
use Rattle.contest_store_tables.specs.Celless.{DropsMoved, LoadsMoved}
use Rattle.contest_store_tables.specs.Changes.{Changes}
use Rattle.contest_store_tables.specs.Clearing.{Clears}
use Rattle.contest_store_tables.specs.Making.{Creates}
use Rattle.contest_store_tables.specs.declared.later_table.LaterTable.{LaterTable}
use Rattle.contest_store_tables.specs.declared.later_table.LaterTable.TheVariants as later
use Rattle.contest_store_tables.specs.declared.row_change.RowChange.TheVariants.{Version, Marks, Duration, ItemName, Digest, RejudgingState, MemberState, Cell}
use Rattle.contest_store_tables.specs.Schema.{form_of}
use Rattle.contest_store_tables.specs.Statements.{Inserts, Loads, FindsFile}
use Rattle.contest_store_tables.specs.declared.table_name.TableName.TheVariants.{Desk, Contest, Items, Accounts, Submissions, Proposals, Releases, Rejudgings, Members, Clarifications, Cells, Notices}

pub desk_created : Creates Desk (codes "CREATE TABLE desk (one INTEGER PRIMARY KEY, version INTEGER NOT NULL) STRICT")
unfolding understood everything
desk_created = record { is = refl; whole = refl; plain = (refl, refl); table = record (form_of Desk) { tree = 0 }; defined = refl; made = refl; uncounted = refl }

pub contest_created : Creates Contest (codes "CREATE TABLE contest (one INTEGER PRIMARY KEY, id TEXT NOT NULL, name TEXT NOT NULL, duration INTEGER NOT NULL, freeze INTEGER, penalty INTEGER NOT NULL, verification INTEGER NOT NULL, gold INTEGER NOT NULL, silver INTEGER NOT NULL, bronze INTEGER NOT NULL, start INTEGER, thaw INTEGER, finalized INTEGER) STRICT")
unfolding understood everything
contest_created = record { is = refl; whole = refl; plain = (refl, refl); table = record (form_of Contest) { tree = 0 }; defined = refl; made = refl; uncounted = refl }

pub items_created : Creates Items (codes "CREATE TABLE items (kind INTEGER NOT NULL, place INTEGER NOT NULL, id TEXT NOT NULL, name TEXT NOT NULL, label TEXT NOT NULL, ordinal INTEGER NOT NULL, flag_a INTEGER NOT NULL, flag_b INTEGER NOT NULL, group_ids TEXT NOT NULL, PRIMARY KEY (kind, place), UNIQUE (kind, id)) STRICT")
unfolding understood everything
items_created = record { is = refl; whole = refl; plain = (refl, refl); table = record (form_of Items) { tree = 0 }; defined = refl; made = refl; uncounted = refl }

pub accounts_created : Creates Accounts (codes "CREATE TABLE accounts (id TEXT NOT NULL PRIMARY KEY, role INTEGER NOT NULL, team TEXT, token BLOB NOT NULL UNIQUE) STRICT")
unfolding understood everything
accounts_created = record { is = refl; whole = refl; plain = (refl, refl); table = record (form_of Accounts) { tree = 0 }; defined = refl; made = refl; uncounted = refl }

pub submissions_created : Creates Submissions (codes "CREATE TABLE submissions (seq INTEGER PRIMARY KEY, team INTEGER NOT NULL, k INTEGER NOT NULL, time INTEGER NOT NULL, problem TEXT NOT NULL, language TEXT NOT NULL, entry TEXT, file BLOB NOT NULL, key TEXT, UNIQUE (team, k), UNIQUE (team, key)) STRICT")
unfolding understood everything
submissions_created = record { is = refl; whole = refl; plain = (refl, refl); table = record (form_of Submissions) { tree = 0 }; defined = refl; made = refl; uncounted = refl }

pub proposals_created : Creates Proposals (codes "CREATE TABLE proposals (seq INTEGER PRIMARY KEY, team INTEGER NOT NULL, k INTEGER NOT NULL, type TEXT NOT NULL, account TEXT NOT NULL, time INTEGER NOT NULL) STRICT")
unfolding understood everything
proposals_created = record { is = refl; whole = refl; plain = (refl, refl); table = record (form_of Proposals) { tree = 0 }; defined = refl; made = refl; uncounted = refl }

pub releases_created : Creates Releases (codes "CREATE TABLE releases (seq INTEGER PRIMARY KEY, team INTEGER NOT NULL, k INTEGER NOT NULL, n INTEGER NOT NULL, type TEXT NOT NULL, time INTEGER NOT NULL, UNIQUE (team, k, n)) STRICT")
unfolding understood everything
releases_created = record { is = refl; whole = refl; plain = (refl, refl); table = record (form_of Releases) { tree = 0 }; defined = refl; made = refl; uncounted = refl }

pub rejudgings_created : Creates Rejudgings (codes "CREATE TABLE rejudgings (n INTEGER PRIMARY KEY, reason TEXT NOT NULL, state INTEGER NOT NULL) STRICT")
unfolding understood everything
rejudgings_created = record { is = refl; whole = refl; plain = (refl, refl); table = record (form_of Rejudgings) { tree = 0 }; defined = refl; made = refl; uncounted = refl }

pub members_created : Creates Members (codes "CREATE TABLE members (rejudging INTEGER NOT NULL, place INTEGER NOT NULL, team INTEGER NOT NULL, k INTEGER NOT NULL, type TEXT, account TEXT, ready INTEGER NOT NULL, PRIMARY KEY (rejudging, place)) STRICT")
unfolding understood everything
members_created = record { is = refl; whole = refl; plain = (refl, refl); table = record (form_of Members) { tree = 0 }; defined = refl; made = refl; uncounted = refl }

pub clarifications_created : Creates Clarifications (codes "CREATE TABLE clarifications (seq INTEGER PRIMARY KEY, audience INTEGER NOT NULL, k INTEGER NOT NULL, from_jury INTEGER NOT NULL, account TEXT NOT NULL, problem TEXT, reply TEXT, text TEXT NOT NULL, time INTEGER NOT NULL, key TEXT, UNIQUE (audience, k)) STRICT")
unfolding understood everything
clarifications_created = record { is = refl; whole = refl; plain = (refl, refl); table = record (form_of Clarifications) { tree = 0 }; defined = refl; made = refl; uncounted = refl }

pub cells_created : Creates Cells (codes "CREATE TABLE cells (audience INTEGER NOT NULL, team INTEGER NOT NULL, problem TEXT NOT NULL, judged INTEGER NOT NULL, pending INTEGER NOT NULL, solved INTEGER, penalties INTEGER NOT NULL, PRIMARY KEY (audience, team, problem)) STRICT")
unfolding understood everything
cells_created = record { is = refl; whole = refl; plain = (refl, refl); table = record (form_of Cells) { tree = 0 }; defined = refl; made = refl; uncounted = refl }

pub desk_inserted : Inserts Desk (codes "INSERT INTO desk (one, version) VALUES (?1, ?2)")
unfolding understood everything
desk_inserted = record { is = refl; plain = (refl, refl) }

pub contest_inserted : Inserts Contest (codes "INSERT INTO contest (one, id, name, duration, freeze, penalty, verification, gold, silver, bronze, start, thaw, finalized) VALUES (?1, ?2, ?3, ?4, ?5, ?6, ?7, ?8, ?9, ?10, ?11, ?12, ?13)")
unfolding understood everything
contest_inserted = record { is = refl; plain = (refl, refl) }

pub items_inserted : Inserts Items (codes "INSERT INTO items (kind, place, id, name, label, ordinal, flag_a, flag_b, group_ids) VALUES (?1, ?2, ?3, ?4, ?5, ?6, ?7, ?8, ?9)")
unfolding understood everything
items_inserted = record { is = refl; plain = (refl, refl) }

pub accounts_inserted : Inserts Accounts (codes "INSERT INTO accounts (id, role, team, token) VALUES (?1, ?2, ?3, ?4)")
unfolding understood everything
accounts_inserted = record { is = refl; plain = (refl, refl) }

pub submissions_inserted : Inserts Submissions (codes "INSERT INTO submissions (seq, team, k, time, problem, language, entry, file, key) VALUES (?1, ?2, ?3, ?4, ?5, ?6, ?7, ?8, ?9)")
unfolding understood everything
submissions_inserted = record { is = refl; plain = (refl, refl) }

pub proposals_inserted : Inserts Proposals (codes "INSERT INTO proposals (seq, team, k, type, account, time) VALUES (?1, ?2, ?3, ?4, ?5, ?6)")
unfolding understood everything
proposals_inserted = record { is = refl; plain = (refl, refl) }

pub releases_inserted : Inserts Releases (codes "INSERT INTO releases (seq, team, k, n, type, time) VALUES (?1, ?2, ?3, ?4, ?5, ?6)")
unfolding understood everything
releases_inserted = record { is = refl; plain = (refl, refl) }

pub rejudgings_inserted : Inserts Rejudgings (codes "INSERT INTO rejudgings (n, reason, state) VALUES (?1, ?2, ?3)")
unfolding understood everything
rejudgings_inserted = record { is = refl; plain = (refl, refl) }

pub members_inserted : Inserts Members (codes "INSERT INTO members (rejudging, place, team, k, type, account, ready) VALUES (?1, ?2, ?3, ?4, ?5, ?6, ?7)")
unfolding understood everything
members_inserted = record { is = refl; plain = (refl, refl) }

pub clarifications_inserted : Inserts Clarifications (codes "INSERT INTO clarifications (seq, audience, k, from_jury, account, problem, reply, text, time, key) VALUES (?1, ?2, ?3, ?4, ?5, ?6, ?7, ?8, ?9, ?10)")
unfolding understood everything
clarifications_inserted = record { is = refl; plain = (refl, refl) }

pub cells_inserted : Inserts Cells (codes "INSERT INTO cells (audience, team, problem, judged, pending, solved, penalties) VALUES (?1, ?2, ?3, ?4, ?5, ?6, ?7)")
unfolding understood everything
cells_inserted = record { is = refl; plain = (refl, refl) }

pub desk_loaded : Loads Desk (codes "SELECT one, version FROM desk ORDER BY one")
unfolding understood everything
desk_loaded = record { names = codes "one" ∷ codes "version" ∷ []; is = refl; plain = (refl, refl); unlisted = refl }

pub contest_loaded : Loads Contest (codes "SELECT one, id, name, duration, freeze, penalty, verification, gold, silver, bronze, start, thaw, finalized FROM contest ORDER BY one")
unfolding understood everything
contest_loaded = record { names = codes "one" ∷ codes "id" ∷ codes "name" ∷ codes "duration" ∷ codes "freeze" ∷ codes "penalty" ∷ codes "verification" ∷ codes "gold" ∷ codes "silver" ∷ codes "bronze" ∷ codes "start" ∷ codes "thaw" ∷ codes "finalized" ∷ []; is = refl; plain = (refl, refl); unlisted = refl }

pub items_loaded : Loads Items (codes "SELECT kind, place, id, name, label, ordinal, flag_a, flag_b, group_ids FROM items ORDER BY kind, place")
unfolding understood everything
items_loaded = record { names = codes "kind" ∷ codes "place" ∷ codes "id" ∷ codes "name" ∷ codes "label" ∷ codes "ordinal" ∷ codes "flag_a" ∷ codes "flag_b" ∷ codes "group_ids" ∷ []; is = refl; plain = (refl, refl); unlisted = refl }

pub accounts_loaded : Loads Accounts (codes "SELECT id, role, team, token FROM accounts ORDER BY id")
unfolding understood everything
accounts_loaded = record { names = codes "id" ∷ codes "role" ∷ codes "team" ∷ codes "token" ∷ []; is = refl; plain = (refl, refl); unlisted = refl }

pub submissions_loaded : Loads Submissions (codes "SELECT seq, team, k, time, problem, language, entry, typeof(file), length(file), key FROM submissions ORDER BY seq")
unfolding understood everything
submissions_loaded = record { names = codes "seq" ∷ codes "team" ∷ codes "k" ∷ codes "time" ∷ codes "problem" ∷ codes "language" ∷ codes "entry" ∷ codes "typeof(file)" ∷ codes "length(file)" ∷ codes "key" ∷ []; is = refl; plain = (refl, refl); unlisted = refl }

pub proposals_loaded : Loads Proposals (codes "SELECT seq, team, k, type, account, time FROM proposals ORDER BY seq")
unfolding understood everything
proposals_loaded = record { names = codes "seq" ∷ codes "team" ∷ codes "k" ∷ codes "type" ∷ codes "account" ∷ codes "time" ∷ []; is = refl; plain = (refl, refl); unlisted = refl }

pub releases_loaded : Loads Releases (codes "SELECT seq, team, k, n, type, time FROM releases ORDER BY seq")
unfolding understood everything
releases_loaded = record { names = codes "seq" ∷ codes "team" ∷ codes "k" ∷ codes "n" ∷ codes "type" ∷ codes "time" ∷ []; is = refl; plain = (refl, refl); unlisted = refl }

pub rejudgings_loaded : Loads Rejudgings (codes "SELECT n, reason, state FROM rejudgings ORDER BY n")
unfolding understood everything
rejudgings_loaded = record { names = codes "n" ∷ codes "reason" ∷ codes "state" ∷ []; is = refl; plain = (refl, refl); unlisted = refl }

pub members_loaded : Loads Members (codes "SELECT rejudging, place, team, k, type, account, ready FROM members ORDER BY rejudging, place")
unfolding understood everything
members_loaded = record { names = codes "rejudging" ∷ codes "place" ∷ codes "team" ∷ codes "k" ∷ codes "type" ∷ codes "account" ∷ codes "ready" ∷ []; is = refl; plain = (refl, refl); unlisted = refl }

pub clarifications_loaded : Loads Clarifications (codes "SELECT seq, audience <> 0, audience, k, from_jury, account, problem, reply, text, time, key FROM clarifications ORDER BY seq")
unfolding understood everything
clarifications_loaded = record { names = codes "seq" ∷ codes "audience <> 0" ∷ codes "audience" ∷ codes "k" ∷ codes "from_jury" ∷ codes "account" ∷ codes "problem" ∷ codes "reply" ∷ codes "text" ∷ codes "time" ∷ codes "key" ∷ []; is = refl; plain = (refl, refl); unlisted = refl }

pub cells_loaded : Loads Cells (codes "SELECT audience, team, problem, judged, pending, solved, penalties FROM cells ORDER BY audience, team, problem")
unfolding understood everything
cells_loaded = record { names = codes "audience" ∷ codes "team" ∷ codes "problem" ∷ codes "judged" ∷ codes "pending" ∷ codes "solved" ∷ codes "penalties" ∷ []; is = refl; plain = (refl, refl); unlisted = refl }

pub file_found : FindsFile (codes "SELECT file FROM submissions WHERE team = ?1 AND k = ?2")
unfolding understood everything
file_found = record { names = codes "file" ∷ []; is = refl; plain = (refl, refl); unlisted = refl }

pub marks_changed : Changes Marks (codes "UPDATE contest SET start = ?2, thaw = ?3, finalized = ?4 WHERE one = ?1")
unfolding understood everything
marks_changed = record { is = refl; plain = (refl, refl) }

pub duration_changed : Changes Duration (codes "UPDATE contest SET duration = ?2, freeze = ?3 WHERE one = ?1")
unfolding understood everything
duration_changed = record { is = refl; plain = (refl, refl) }

pub item_name_changed : Changes ItemName (codes "UPDATE items SET name = ?3 WHERE kind = ?1 AND place = ?2")
unfolding understood everything
item_name_changed = record { is = refl; plain = (refl, refl) }

pub digest_changed : Changes Digest (codes "UPDATE accounts SET token = ?2 WHERE id = ?1")
unfolding understood everything
digest_changed = record { is = refl; plain = (refl, refl) }

pub rejudging_state_changed : Changes RejudgingState (codes "UPDATE rejudgings SET state = ?2 WHERE n = ?1")
unfolding understood everything
rejudging_state_changed = record { is = refl; plain = (refl, refl) }

pub member_state_changed : Changes MemberState (codes "UPDATE members SET type = ?3, account = ?4, ready = ?5 WHERE rejudging = ?1 AND place = ?2")
unfolding understood everything
member_state_changed = record { is = refl; plain = (refl, refl) }

pub cell_changed : Changes Cell (codes "UPDATE cells SET judged = ?4, pending = ?5, solved = ?6, penalties = ?7 WHERE audience = ?1 AND team = ?2 AND problem = ?3")
unfolding understood everything
cell_changed = record { is = refl; plain = (refl, refl) }

pub notices_created : Creates Notices (codes "CREATE TABLE notices (seq INTEGER PRIMARY KEY, kind INTEGER NOT NULL, number INTEGER NOT NULL, k INTEGER NOT NULL, from_jury INTEGER NOT NULL, account TEXT NOT NULL, problem TEXT, reply TEXT, text TEXT NOT NULL, time INTEGER NOT NULL, key TEXT, UNIQUE (kind, number, k)) STRICT")
unfolding understood everything
notices_created = record { is = refl; whole = refl; plain = (refl, refl); table = record (form_of Notices) { tree = 0 }; defined = refl; made = refl; uncounted = refl }

pub notices_inserted : Inserts Notices (codes "INSERT INTO notices (seq, kind, number, k, from_jury, account, problem, reply, text, time, key) VALUES (?1, ?2, ?3, ?4, ?5, ?6, ?7, ?8, ?9, ?10, ?11)")
unfolding understood everything
notices_inserted = record { is = refl; plain = (refl, refl) }

pub notices_loaded : Loads Notices (codes "SELECT seq, kind, number, k, from_jury, account, problem, reply, text, time, key FROM notices ORDER BY seq")
unfolding understood everything
notices_loaded = record { names = codes "seq" ∷ codes "kind" ∷ codes "number" ∷ codes "k" ∷ codes "from_jury" ∷ codes "account" ∷ codes "problem" ∷ codes "reply" ∷ codes "text" ∷ codes "time" ∷ codes "key" ∷ []; is = refl; plain = (refl, refl); unlisted = refl }

pub clarifications_cleared : Clears Clarifications (codes "DELETE FROM clarifications")
unfolding understood everything
clarifications_cleared = record { is = refl; plain = (refl, refl) }

pub version_changed : Changes Version (codes "UPDATE desk SET version = ?2 WHERE one = ?1")
unfolding understood everything
version_changed = record { is = refl; plain = (refl, refl) }

pub moved_loaded : (place : LaterTable) → LoadsMoved place (codes "SELECT seq, kind, number, k, from_jury, account, problem, reply, text, time, key FROM notices ORDER BY seq")
unfolding understood everything
moved_loaded later.Cells = record { names = codes "seq" ∷ codes "kind" ∷ codes "number" ∷ codes "k" ∷ codes "from_jury" ∷ codes "account" ∷ codes "problem" ∷ codes "reply" ∷ codes "text" ∷ codes "time" ∷ codes "key" ∷ []; is = refl; plain = (refl, refl); unlisted = refl }
moved_loaded later.Notices = record { names = codes "seq" ∷ codes "kind" ∷ codes "number" ∷ codes "k" ∷ codes "from_jury" ∷ codes "account" ∷ codes "problem" ∷ codes "reply" ∷ codes "text" ∷ codes "time" ∷ codes "key" ∷ []; is = refl; plain = (refl, refl); unlisted = refl }

pub moved_dropped : (place : LaterTable) → DropsMoved place (codes "DROP TABLE notices")
unfolding understood everything
moved_dropped later.Cells = record { is = refl; plain = (refl, refl) }
moved_dropped later.Notices = record { is = refl; plain = (refl, refl) }
