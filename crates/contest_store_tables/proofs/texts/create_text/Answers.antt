use Rattle.contest_store_tables.proofs.TextMeanings.{desk_created, contest_created, items_created, accounts_created, submissions_created, proposals_created, releases_created, rejudgings_created, members_created, clarifications_created, cells_created, notices_created}
use Rattle.contest_store_tables.proofs.texts.create_text.Goals as goal

pub returns-in-Desk : goal.returns-in-Desk
returns-in-Desk c = rw c.in-Desk.is desk_created

pub returns-in-Contest : goal.returns-in-Contest
returns-in-Contest c = rw c.in-Contest.is contest_created

pub returns-in-Items : goal.returns-in-Items
returns-in-Items c = rw c.in-Items.is items_created

pub returns-in-Accounts : goal.returns-in-Accounts
returns-in-Accounts c = rw c.in-Accounts.is accounts_created

pub returns-in-Submissions : goal.returns-in-Submissions
returns-in-Submissions c = rw c.in-Submissions.is submissions_created

pub returns-in-Proposals : goal.returns-in-Proposals
returns-in-Proposals c = rw c.in-Proposals.is proposals_created

pub returns-in-Releases : goal.returns-in-Releases
returns-in-Releases c = rw c.in-Releases.is releases_created

pub returns-in-Rejudgings : goal.returns-in-Rejudgings
returns-in-Rejudgings c = rw c.in-Rejudgings.is rejudgings_created

pub returns-in-Members : goal.returns-in-Members
returns-in-Members c = rw c.in-Members.is members_created

pub returns-in-Clarifications : goal.returns-in-Clarifications
returns-in-Clarifications c = rw c.in-Clarifications.is clarifications_created

pub returns-in-Cells : goal.returns-in-Cells
returns-in-Cells c = rw c.in-Cells.is cells_created

pub returns-in-Notices : goal.returns-in-Notices
returns-in-Notices c = rw c.in-Notices.is notices_created
