use Rattle.contest_store_tables.proofs.TextMeanings.{desk_inserted, contest_inserted, items_inserted, accounts_inserted, submissions_inserted, proposals_inserted, releases_inserted, rejudgings_inserted, members_inserted, clarifications_inserted, cells_inserted, notices_inserted}
use Rattle.contest_store_tables.proofs.texts.insert_text.Goals as goal

pub returns-in-Desk : goal.returns-in-Desk
returns-in-Desk c = rw c.in-Desk.is desk_inserted

pub returns-in-Contest : goal.returns-in-Contest
returns-in-Contest c = rw c.in-Contest.is contest_inserted

pub returns-in-Items : goal.returns-in-Items
returns-in-Items c = rw c.in-Items.is items_inserted

pub returns-in-Accounts : goal.returns-in-Accounts
returns-in-Accounts c = rw c.in-Accounts.is accounts_inserted

pub returns-in-Submissions : goal.returns-in-Submissions
returns-in-Submissions c = rw c.in-Submissions.is submissions_inserted

pub returns-in-Proposals : goal.returns-in-Proposals
returns-in-Proposals c = rw c.in-Proposals.is proposals_inserted

pub returns-in-Releases : goal.returns-in-Releases
returns-in-Releases c = rw c.in-Releases.is releases_inserted

pub returns-in-Rejudgings : goal.returns-in-Rejudgings
returns-in-Rejudgings c = rw c.in-Rejudgings.is rejudgings_inserted

pub returns-in-Members : goal.returns-in-Members
returns-in-Members c = rw c.in-Members.is members_inserted

pub returns-in-Clarifications : goal.returns-in-Clarifications
returns-in-Clarifications c = rw c.in-Clarifications.is clarifications_inserted

pub returns-in-Cells : goal.returns-in-Cells
returns-in-Cells c = rw c.in-Cells.is cells_inserted

pub returns-in-Notices : goal.returns-in-Notices
returns-in-Notices c = rw c.in-Notices.is notices_inserted
